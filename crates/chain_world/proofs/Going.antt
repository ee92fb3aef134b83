-- What holds of packets, proposals and answers stays.
use Rattle.std.proofs.Common.{inl, inr, ℕ, ◌≤◌, List, Bool, true, false, ap, sym, subst, ◌∙◌, arith}
use Rattle.std.specs.Map.{keys_of}
use Rattle.graph_model.specs.declared.edge_id.EdgeId.{EdgeId}
use Rattle.graph_model.specs.declared.half.Half.{Half}
use Rattle.part_keys.specs.declared.proposal.Proposal.{Proposal}
use Rattle.part_keys.specs.declared.proposal.Proposal.TheVariants.{Start, Members, Made, Blank}
use Rattle.part_keys.specs.declared.entry.PartEntry.{PartEntry}
use Rattle.part_keys.specs.declared.entry.PartEntry.TheVariants as entry
use Rattle.part_rules.specs.Part.{guard_of}
use Rattle.chain_leader.specs.declared.body.ChainBody.{ChainBody}
use Rattle.chain_leader.specs.declared.body.ChainBody.TheVariants as says
use Rattle.chain_world.specs.declared.packet.ChainEnd.{ChainEnd}
use Rattle.chain_world.specs.declared.packet.ChainEnd.TheVariants as ends
use Rattle.chain_world.specs.declared.packet.ChainPacket.{ChainPacket}
use Rattle.chain_world.specs.Course.{Courses}
use Rattle.chain_world.specs.State.{Post, Chains, decided_machine}
use Rattle.chain_world.specs.Invariant.Protocol.{IsSent, HasPut, HasFenced, IsClosing, IsWritten, IsDenied, IsFenced, IsPut, IsFence, IsAsked, IsMeantBy, IsMeant, IsEntry, IsProposed}
use Rattle.chain_world.specs.Invariant.Going.{Goes}

module _ (parts : ℕ) (s : Chains) (k : Courses) (z : Chains) (l : Courses) (goes : Goes parts s k z l) where
  pub sent_on : (packet : ChainPacket) → IsSent s packet → IsSent z packet
  sent_on packet sent = (sent.0, goes.posts (record { packet = packet; moment = sent.0 }) sent.1)

  pub has_put_on : (p t v : ℕ) → HasPut s p t v → HasPut z p t v
  has_put_on p t v h = (h.0, h.1, sent_on _ h.2)

  pub has_fenced_on : (p t v : ℕ) → HasFenced s p t v → HasFenced z p t v
  has_fenced_on p t v h = (h.0, h.1, sent_on _ h.2)

  pub written_on : (p v : ℕ) → IsWritten k p v → IsWritten l p v
  written_on p v w = let c = goes.courses p v w.course w.known in record { course = c.new; known = c.known; wrote = c.wrote w.wrote }

  pub closing_on : (p v : ℕ) → IsClosing k p v → IsClosing l p v
  closing_on p v w = let c = goes.courses p v w.course w.known in record {
    course = c.new;
    known = c.known;
    over = elim w.over [ inl wrote ↦ inl (c.wrote wrote) | inr aborted ↦ inr (c.aborted aborted) ];
  }

  pub denied_on : (p t v : ℕ) → IsDenied parts s k p t v → IsDenied parts z l p t v
  denied_on p t v d = let c = goes.courses p v d.course d.known in record {
    course = c.new;
    known = c.known;
    fenced = has_fenced_on p t v d.fenced;
    guarded = subst (λ (q : ℕ). t ≤ guard_of (decided_machine parts z q) p) (sym c.remote) (let a = d.guarded in let b = goes.guards d.course.remote p in omega arith);
    passed = goes.unwritten p t v d.course c.new d.fenced d.known d.guarded d.passed c.known;
  }

  pub fenced_on : (p t v : ℕ) (b : Bool) → IsFenced parts s k p t v b → IsFenced parts z l p t v b
  fenced_on p t v true f = closing_on p v f
  fenced_on p t v false f = denied_on p t v f

  put_on : (from to : ChainEnd) (t v : ℕ) (list : List (EdgeId × Half)) → IsPut s k from to t v list → IsPut z l from to t v list
  put_on from to t v list i = let c = goes.courses i.part v i.course i.known in record {
    part = i.part;
    course = c.new;
    sender = i.sender;
    known = c.known;
    whole = i.whole ∙ sym c.list;
    receiver = i.receiver ∙ ap ends.Part (sym c.remote);
    led = goes.led i.part t i.led;
  }

  fence_on : (from to : ChainEnd) (t v : ℕ) (edges : List EdgeId) → IsFence s k from to t v edges → IsFence z l from to t v edges
  fence_on from to t v edges i = let c = goes.courses i.part v i.course i.known in record {
    part = i.part;
    course = c.new;
    sender = i.sender;
    known = c.known;
    whole = i.whole ∙ ap keys_of (sym c.list);
    receiver = i.receiver ∙ ap ends.Part (sym c.remote);
    led = goes.led i.part t i.led;
  }

  pub asked_on : (q : ℕ) (x : PartEntry) → IsAsked parts s q x → IsAsked parts z q x
  asked_on q x a = record { id = a.id; op = a.op; invoked = goes.invoked a.id a.op a.invoked; entry = a.entry; routed = a.routed; part = a.part }

  meant_by_on : (m : ℕ) (from to : ChainEnd) (b : ChainBody) → IsMeantBy parts s k m from to b → IsMeantBy parts z l m from to b
  meant_by_on m from to (says.Request number x) i = record { part = i.part; receiver = i.receiver; asked = asked_on i.part x i.asked }
  meant_by_on m from to (says.Answer number answer) i = record { id = i.id; receiver = i.receiver; its = i.its; right = goes.rights i.id answer m i.right; known = i.known }
  meant_by_on m from to (says.NotLeader about q hint) i = i
  meant_by_on m from to (says.Remote t v list) i = put_on from to t v list i
  meant_by_on m from to (says.Done t v) i = record { part = i.part; term = i.term; receiver = i.receiver; written = written_on i.part v i.written }
  meant_by_on m from to (says.Stale t v above) i = tt
  meant_by_on m from to (says.Fence t v edges) i = fence_on from to t v edges i
  meant_by_on m from to (says.Fenced t v written) i = record { part = i.part; term = i.term; receiver = i.receiver; fenced = fenced_on i.part t v written i.fenced }
  meant_by_on m from to (says.Resume t behind) i = tt

  pub meant_on : (post : Post) → IsMeant parts s k post → IsMeant parts z l post
  meant_on post i = meant_by_on post.moment post.packet.from post.packet.to post.packet.body i

  pub entry_on : (q u : ℕ) (x : PartEntry) → IsEntry parts s k q u x → IsEntry parts z l q u x
  entry_on q u (entry.Prime id list absent) i = asked_on q (entry.Prime id list absent) i
  entry_on q u (entry.Local v) i = closing_on q v i
  entry_on q u (entry.Double v) i = tt
  entry_on q u (entry.Close v) i = closing_on q v i
  entry_on q u (entry.Abort v) i = denied_on q u v i
  entry_on q u (entry.Remote p t v list) i = sent_on _ i
  entry_on q u (entry.Fence p t v edges) i = sent_on _ i
  entry_on q u (entry.Vertex id op) i = asked_on q (entry.Vertex id op) i
  entry_on q u (entry.Read id query) i = i

  pub proposed_on : (q u : ℕ) (x : Proposal) → IsProposed parts s k q u x → IsProposed parts z l q u x
  proposed_on q u Start i = tt
  proposed_on q u (Members config) i = tt
  proposed_on q u (Made x) i = entry_on q u x i
  proposed_on q u Blank i = i
