-- A proposal that is decided meets the discipline.
use Rattle.std.proofs.Common.{◌≡◌, inl, inr, ℕ, ◌<◌, ◌≤◌, List, Some, Bool, true, false, refl, ap, sym, subst, ◌∙◌, arith}
use Rattle.std.specs.Prelude.{nat_le, is_some}
use Rattle.std.proofs.lemmas.Bool.{false≢true, leb-true}
use Rattle.std.proofs.lemmas.Option.{same_Some}
use Rattle.std.specs.Map.{keys_of}
use Rattle.graph_model.specs.declared.call_id.CallId.{CallId}
use Rattle.graph_model.specs.declared.edge_id.EdgeId.{EdgeId}
use Rattle.graph_model.specs.declared.half.Half.{Half}
use Rattle.graph_model.specs.declared.op.Op.{Op}
use Rattle.graph_model.specs.declared.op.Op.TheVariants.{PutEdges, DelEdges, PutVertex, DelVertex, Read as ReadOp}
use Rattle.part_keys.specs.Routing.{routes_to}
use Rattle.part_keys.specs.declared.proposal.Proposal.{Proposal}
use Rattle.part_keys.specs.declared.proposal.Proposal.TheVariants.{Start, Members, Made, Blank}
use Rattle.part_keys.specs.declared.entry.PartEntry.{PartEntry}
use Rattle.part_keys.specs.declared.entry.PartEntry.TheVariants as entry
use Rattle.part_rules.specs.Part.{guard_of}
use Rattle.chain_leader.specs.declared.body.ChainBody.TheVariants as says
use Rattle.chain_leader.specs.Calls.{entry_of, part_of_op, call_in}
use Rattle.chain_leader.specs.Rules.{Table}
use Rattle.chain_world.specs.declared.packet.ChainEnd.{ChainEnd}
use Rattle.chain_world.specs.declared.packet.ChainEnd.TheVariants as ends
use Rattle.chain_world.specs.Places.{At}
use Rattle.chain_world.specs.Course.{Fate, Primed, Doubled, Settled, Closed, Aborted, Course, Courses, is_aborted}
use Rattle.chain_world.specs.Invariant.Discipline.{IsInvoked, IsOfCall, IsRemoteOf, MeetsEntry, MeetsItem, MayDecide}
use Rattle.chain_world.specs.State.{Chains, decided_of, decided_machine, packet_of}
use Rattle.chain_world.specs.World.{are_at_most}
use Rattle.chain_world.specs.Invariant.Protocol.{IsSent, HasPut, HasFenced, IsClosing, IsDenied, IsAsked, IsEntry, IsProposed, IsKept, IsReadyIf}
use Rattle.chain_world.proofs.Moving.{same_leader}
use Rattle.chain_world.proofs.Ready.{is_there}
use Rattle.chain_world.proofs.Growing.{all_at}

-- the call of a call's entry
pub call_of : (id : CallId) (o : Op) → call_in (entry_of id o) ≡ Some id
call_of id (PutEdges rows absent) = refl
call_of id (DelEdges edges) = refl
call_of id (PutVertex v tag row absent) = refl
call_of id (DelVertex v) = refl
call_of id (ReadOp query) = refl

-- a chain that was given up was by some term
pub aborted_by : (fate : Fate) → is_aborted fate ≡ true → (u : ℕ) × (fate ≡ Aborted u)
aborted_by Primed e = absurd (false≢true e)
aborted_by Doubled e = absurd (false≢true e)
aborted_by Settled e = absurd (false≢true e)
aborted_by Closed e = absurd (false≢true e)
aborted_by (Aborted u) e = (u, refl)

-- the part that an end names
abbrev part_named : ChainEnd → ℕ
part_named (ends.Client c) = 0
part_named (ends.Part n) = n
part_named (ends.Leader n m) = 0

module _ (parts : ℕ) (s : Chains) (k : Courses) (kept : IsKept parts s k) where
  -- what a Remote, and a Fence, that was sent to a part has
  pub put_of : (q u v p : ℕ) (list : List (EdgeId × Half)) → IsSent s (packet_of (ends.Leader q u) (ends.Part p) (says.Remote u v list))
      → (c : Course) × (k q v ≡ Some c) × (c.remote ≡ p) × (c.list ≡ list) × HasPut s q u v
  put_of q u v p list sent =
      let i = kept.meant _ sent.1 in
      let same = same_leader q u i.part u i.sender in
      (i.course, ap (λ (n : ℕ). k n v) same.0 ∙ i.known, sym (ap part_named i.receiver), sym i.whole, (ends.Part p, list, sent))

  pub fence_of : (q u v p : ℕ) (edges : List EdgeId) → IsSent s (packet_of (ends.Leader q u) (ends.Part p) (says.Fence u v edges))
      → (c : Course) × (k q v ≡ Some c) × (c.remote ≡ p) × (keys_of c.list ≡ edges) × HasFenced s q u v
  fence_of q u v p edges sent =
      let i = kept.meant _ sent.1 in
      let same = same_leader q u i.part u i.sender in
      (i.course, ap (λ (n : ℕ). k n v) same.0 ∙ i.known, sym (ap part_named i.receiver), sym i.whole, (ends.Part p, edges, sent))

  -- a leader that has sent a Remote has a no-op that is decided
  pub put_started : (q u v : ℕ) → HasPut s q u v → (i : ℕ) × At (decided_of s q) i (u, Start)
  put_started q u v h =
      let m = kept.meant _ h.2.1 in
      let same = same_leader q u m.part u m.sender in
      let l = is_there (s.leaders q u) (ap (λ (n : ℕ). is_some (s.leaders n u)) same.0 ∙ m.led) in
      by_ready l.0.applied l.0.lead.table l.0.lead.ready (kept.leaders q u l.0 l.1).rules
    where
      by_ready : (n : ℕ) (table : Table) (b : Bool) → IsReadyIf parts (decided_of s q) (HasPut s q u) (HasFenced s q u) u n table b → (i : ℕ) × At (decided_of s q) i (u, Start)
      by_ready n table true r = (r.noop, r.started)
      by_ready n table false r = absurd (r.unput v h)

  module _ (p t : ℕ) (x : Proposal) (all : are_at_most t (decided_of s p) ≡ true) (proposed : IsProposed parts s k p t x) where
    -- no decided entry has a greater term
    pub at_most : (i : ℕ) (e : ℕ × Proposal) → At (decided_of s p) i e → e.0 ≤ t
    at_most i e at = leb-true e.0 t (all_at (λ (y : ℕ × Proposal). nat_le y.0 t) (decided_of s p) i e all at)

    -- a chain that is over wrote, where it wasn't given up
    closes : (v : ℕ) (fate : Fate) → is_aborted fate ≡ false → IsClosing k p v → (c : Course) → k p v ≡ Some c → c.fate ≡ fate → c.wrote ≡ true
    closes v fate plain i c known is =
        let same : i.course ≡ c = same_Some i.course c (sym i.known ∙ known) in
        elim i.over [
          | inl wrote ↦ ap (λ (y : Course). y.wrote) (sym same) ∙ wrote
          | inr aborted ↦ absurd (false≢true (sym plain ∙ ap is_aborted (sym is) ∙ ap (λ (y : Course). is_aborted y.fate) (sym same) ∙ aborted))
        ]

    unwritten : (v : ℕ) → IsDenied parts s k p t v → (c : Course) → k p v ≡ Some c → c.wrote ≡ false
    unwritten v i c known = by_wrote c.wrote refl
      where
        same : i.course ≡ c
        same = same_Some i.course c (sym i.known ∙ known)

        by_wrote : (b : Bool) → c.wrote ≡ b → c.wrote ≡ false
        by_wrote false e = e
        by_wrote true e = absurd (let f = i.passed (ap (λ (y : Course). y.wrote) same ∙ e) in let le = at_most f.0 f.1 f.2 in let lt = f.3 in omega arith)

    call_meets : (id : CallId) (y : PartEntry) → call_in y ≡ Some id → IsAsked parts s p y → IsOfCall parts s.ledger.steps p id y
    call_meets id y its a =
        let same : a.id ≡ id = same_Some a.id id (sym (call_of a.id a.op) ∙ ap call_in (sym a.entry) ∙ its) in
        let routed = a.routed in
        record {
          op = a.op;
          invoked = subst (λ (i : CallId). IsInvoked s.ledger.steps i a.op) same a.invoked;
          is = ap (λ (i : CallId). entry_of i a.op) (sym same) ∙ sym a.entry;
          home = a.part;
          routed = ap (λ (n : ℕ). routes_to parts n y) (sym a.part) ∙ ap (routes_to parts (part_of_op parts a.op)) a.entry ∙ routed;
        }

    remote_meets : (q u v : ℕ) (list : List (EdgeId × Half)) → IsSent s (packet_of (ends.Leader q u) (ends.Part p) (says.Remote u v list)) → IsRemoteOf k (decided_machine parts s p) p q u v list
    remote_meets q u v list sent =
        let i = put_of q u v p list sent in
        record {
          course = i.0;
          begun = i.1;
          remote = i.2;
          whole = i.3;
          late = λ aborted. (let w = aborted_by i.0.fate aborted in
              let a = kept.aborted q v w.0 i.0 i.1 w.1 in
              let b = kept.unput q u v w.0 i.0 i.4 i.1 w.1 in
              subst (λ (n : ℕ). u < guard_of (decided_machine parts s n) q) i.2 (let g = a.0 in omega arith));
        }

    entry_meets : (y : PartEntry) → IsEntry parts s k p t y → MeetsEntry parts s.ledger.steps k (decided_machine parts s p) p y
    entry_meets (entry.Prime id list absent) a = call_meets id (entry.Prime id list absent) refl a
    entry_meets (entry.Local v) i = closes v Primed refl i
    entry_meets (entry.Double v) i = tt
    entry_meets (entry.Close v) i = closes v Doubled refl i
    entry_meets (entry.Abort v) i = λ c known is. unwritten v i c known
    entry_meets (entry.Remote q u v list) sent = remote_meets q u v list sent
    entry_meets (entry.Fence q u v edges) sent = let i = fence_of q u v p edges sent in record { course = i.0; begun = i.1; remote = i.2; whole = i.3 }
    entry_meets (entry.Vertex id o) a = call_meets id (entry.Vertex id o) refl a
    entry_meets (entry.Read id query) i = tt

    item_meets : (y : Proposal) → IsProposed parts s k p t y → MeetsItem parts s.ledger.steps k (decided_machine parts s p) p y
    item_meets Start i = tt
    item_meets (Members config) i = tt
    item_meets (Made y) i = entry_meets y i
    item_meets Blank i = tt

    pub may_decide : MayDecide parts s.ledger k p (t, x)
    may_decide = item_meets x proposed
