-- The answers that a leader sends when it applies an entry are true.
use Rattle.std.proofs.Common.{◌≡◌, ◌⊎◌, inl, inr, ℕ, suc, List, [], ◌∷◌, ◌++◌, take, Option, Some, None, Bool, true, false, refl, ap, sym, subst, ◌∙◌, arith, eqb-true}
use Rattle.std.specs.Prelude.{◌==◌, if◌then◌else◌}
use Rattle.std.proofs.lemmas.Bool.{cond_both, cond-false, ne_eqb}
use Rattle.std.proofs.lemmas.Option.{none-some}
use Rattle.graph_model.specs.declared.answer.Answer.{Answer}
use Rattle.graph_model.specs.declared.answer.Answer.TheVariants as said
use Rattle.graph_model.specs.declared.call_id.CallId.{CallId}
use Rattle.graph_model.specs.declared.edge_id.EdgeId.{EdgeId}
use Rattle.graph_model.specs.declared.half.Half.{Half}
use Rattle.raft_log.specs.Decided.{count_term}
use Rattle.part_keys.specs.declared.proposal.Proposal.{Proposal}
use Rattle.part_keys.specs.declared.proposal.Proposal.TheVariants.{Start, Members, Made, Blank}
use Rattle.part_keys.specs.declared.entry.PartEntry.{PartEntry}
use Rattle.part_keys.specs.declared.entry.PartEntry.TheVariants as entry
use Rattle.part_rules.specs.declared.applied.Applied.{Applied}
use Rattle.part_rules.specs.Machine.{applied}
use Rattle.part_rules.specs.declared.applied.Applied.TheVariants as told
use Rattle.chain_leader.specs.declared.body.ChainBody.{ChainBody}
use Rattle.chain_leader.specs.declared.body.ChainBody.TheVariants as says
use Rattle.chain_leader.specs.declared.letter.Letter.{Letter}
use Rattle.chain_leader.specs.declared.letter.Letter.TheVariants.{Back}
use Rattle.chain_leader.specs.Calls.{answer_of}
use Rattle.chain_leader.specs.Leading.{told as telling, reply_to, back_of, answers_of}
use Rattle.chain_world.specs.declared.packet.ChainEnd.{ChainEnd}
use Rattle.chain_world.specs.declared.packet.ChainEnd.TheVariants as ends
use Rattle.chain_world.specs.Places.{Among, At}
use Rattle.chain_world.specs.Course.{Courses}
use Rattle.chain_world.specs.Invariant.Discipline.{IsRightReply, WasAnswered, WasTold}
use Rattle.chain_world.specs.Invariant.Sound.{IsSound, HasWritten, HasWrittenOrEnded}
use Rattle.chain_world.specs.State.{Post, Leader, Chains, decided_of, machine_behind, made_by, made_by_leader, posts_of}
use Rattle.chain_world.specs.World.{own_sender}
use Rattle.chain_world.specs.Invariant.Protocol.{IsMeant, IsMeantBy, IsWritten, IsClosing, IsFenced, IsKept}
use Rattle.chain_world.proofs.Folding.{remote_unfenced, fence_undone}
use Rattle.chain_world.proofs.Members.{at_same}
use Rattle.chain_world.proofs.Staying.{is_chains, AreQuiet}
use Rattle.chain_world.proofs.NoViews.{never_shown, never_unknown}

-- the part from which a Remote or Fence came
abbrev source_of : PartEntry → ℕ
source_of (entry.Remote q t v list) = q
source_of (entry.Fence q t v edges) = q
source_of (entry.Prime id list absent) = 0
source_of (entry.Local v) = 0
source_of (entry.Double v) = 0
source_of (entry.Close v) = 0
source_of (entry.Abort v) = 0
source_of (entry.Vertex id op) = 0
source_of (entry.Read id query) = 0

abbrev entry_in : PartEntry → Proposal → PartEntry
entry_in d Start = d
entry_in d (Members config) = d
entry_in d (Made x) = x
entry_in d Blank = d

module _ (parts : ℕ) (s : Chains) (k : Courses) (kept : IsKept parts s k) (sound : IsSound parts s.ledger k) (p t : ℕ) (l : Leader) (is : s.leaders p t ≡ Some l)
    (u : ℕ) (x : PartEntry) (at : At (decided_of s p) l.applied (u, Made x)) (r : Applied) (was : WasAnswered parts (decided_of s p) l.applied u x r) where
  -- the sender that is kept is a leader of the part that the entry came from
  from_source : (e : ChainEnd) → own_sender s p t l u ≡ Some e → (q : ℕ) → source_of x ≡ q → (term : ℕ) × (e ≡ ends.Leader q term)
  from_source e its q source = cond_both (u == t) (l.senders (count_term (take l.applied (decided_of s p)) t)) None (λ (o : Option ChainEnd). o ≡ Some e → (term : ℕ) × (e ≡ ends.Leader q term))
      (λ own f. (let led = kept.leaders p t l is in
      let above = led.above in
      let i = led.senders (count_term (take l.applied (decided_of s p)) t) e f in
      let same_term = eqb-true u t own in
      let made : At l.made (count_term (take l.applied (decided_of s p)) t) (Made x) =
      subst (λ (o : Option Leader). At (made_by_leader o) (count_term (take l.applied (decided_of s p)) t) (Made x)) is
      (subst (λ (xs : List Proposal). At xs (count_term (take l.applied (decided_of s p)) t) (Made x)) (cond-false (t == 0) (s.founded p) (made_by_leader (s.leaders p t)) (ne_eqb t 0 (λ z. (omega arith))))
      (subst (λ (n : ℕ). At (made_by s p n) (count_term (take l.applied (decided_of s p)) n) (Made x)) same_term (kept.follows p l.applied (u, Made x) at))) in
      let same : i.of ≡ x = ap (entry_in x) (at_same (Made i.of) (Made x) l.made (count_term (take l.applied (decided_of s p)) t) i.at made) in
      let part : i.part ≡ q = source_part i.of i.part i.from ∙ ap source_of same ∙ source in
      (i.term, i.sender_is ∙ ap (λ (n : ℕ). ends.Leader n i.term) part)))
      (λ other f. absurd (none-some e f)) its
    where
      source_part : (y : PartEntry) (n : ℕ) → (((a b : ℕ) × (list : List (EdgeId × Half)) × (y ≡ entry.Remote n a b list)) ⊎ ((a b : ℕ) × (edges : List EdgeId) × (y ≡ entry.Fence n a b edges))) → n ≡ source_of y
      source_part y n (inl w) = sym (ap source_of w.3)
      source_part y n (inr w) = sym (ap source_of w.3)

  -- an answer to a client
  right_of : (id : CallId) (a : Answer) → answer_of x r ≡ Some (id, a) → IsRightReply parts s.ledger id a 0
  right_of id a e = by_answer a e
    where
      it : (b : Answer) → answer_of x r ≡ Some (id, b) → WasTold parts s.ledger id b
      it b f = record { part = p; place = l.applied; term = u; entry = x; answer = r; answered = was; tells = f }

      by_answer : (b : Answer) → answer_of x r ≡ Some (id, b) → IsRightReply parts s.ledger id b 0
      by_answer said.Fine f = it said.Fine f
      by_answer said.Skipped f = it said.Skipped f
      by_answer said.Pending f = it said.Pending f
      by_answer (said.Conflict other) f = it (said.Conflict other) f
      by_answer said.Cancelled f = it said.Cancelled f
      by_answer said.Unknown f = tt
      by_answer (said.Shown view) f = absurd (never_shown x r id view f)

  -- an answer to a sender
  written_of : (q v : ℕ) → HasWritten (k q v) → IsWritten k q v
  written_of q v w = record { course = w.0; known = w.1; wrote = w.2 }

  ended_of : (q v : ℕ) → HasWrittenOrEnded (k q v) → IsClosing k q v
  ended_of q v w = record { course = w.0; known = w.1; over = w.2 }

  fenced_of : (q a v : ℕ) (edges : List EdgeId) (b : Bool) → x ≡ entry.Fence q a v edges → r ≡ told.Fenced b → IsFenced parts s k q a v b
  fenced_of q a v edges true of is_so = ended_of q v ((sound.sound.meant p l.applied u x r was).fenced q a v edges of is_so)
  fenced_of q a v edges false of is_so = kept.denied p l.applied u q a v edges (subst (λ (y : PartEntry). WasAnswered parts (decided_of s p) l.applied u y (told.Fenced false)) of
      (subst (WasAnswered parts (decided_of s p) l.applied u x) is_so was))

  -- one that leaves where the sender is kept
  back_meant : (b : ChainBody) → ((e : ChainEnd) → own_sender s p t l u ≡ Some e → IsMeantBy parts s k 0 (ends.Leader p t) e b)
      → (post : Post) → Among post (posts_of p t (own_sender s p t l u) (Back b ∷ [])) → IsMeant parts s k post
  back_meant b means post = by_sender (own_sender s p t l u) refl
    where
      by_sender : (o : Option ChainEnd) → own_sender s p t l u ≡ o → Among post (posts_of p t o (Back b ∷ [])) → IsMeant parts s k post
      by_sender None e among = absurd among
      by_sender (Some end) e among = elim among [ inl same ↦ subst (IsMeant parts s k) (sym same) (means end e) | inr none ↦ absurd none ]

  remote_meant : (q a v : ℕ) (list : List (EdgeId × Half)) → x ≡ entry.Remote q a v list → (y : Applied) → r ≡ y
      → (post : Post) → Among post (posts_of p t (own_sender s p t l u) (reply_to a v y)) → IsMeant parts s k post
  remote_meant q a v list of told.Done e post among = back_meant (says.Done a v)
      (λ end its. (let f = from_source end its q (ap source_of of) in record { part = q; term = f.0; receiver = f.1; written = written_of q v ((sound.sound.meant p l.applied u x r was).done q a v list of e) })) post among
  remote_meant q a v list of (told.Stale above) e post among = back_meant (says.Stale a v above) (λ end its. tt) post among
  remote_meant q a v list of (told.Fenced b) e post among =
      absurd (remote_unfenced parts (suc l.applied) _ q a v list b (subst (λ (y : PartEntry). (applied parts (suc l.applied) y (machine_behind parts s p l.applied)).1 ≡ told.Fenced b) of (was.is ∙ e)))
  remote_meant q a v list of told.Old e post among = absurd among
  remote_meant q a v list of (told.Again outcome) e post among = absurd among
  remote_meant q a v list of (told.Conflict other) e post among = absurd among
  remote_meant q a v list of told.Skipped e post among = absurd among
  remote_meant q a v list of (told.Begun w) e post among = absurd among
  remote_meant q a v list of (told.Settled id) e post among = absurd among
  remote_meant q a v list of (told.Doubled id) e post among = absurd among
  remote_meant q a v list of (told.Closed id) e post among = absurd among
  remote_meant q a v list of (told.Aborted id) e post among = absurd among
  remote_meant q a v list of (told.Finished id) e post among = absurd among
  remote_meant q a v list of told.Nothing e post among = absurd among

  fence_meant : (q a v : ℕ) (edges : List EdgeId) → x ≡ entry.Fence q a v edges → (y : Applied) → r ≡ y
      → (post : Post) → Among post (posts_of p t (own_sender s p t l u) (reply_to a v y)) → IsMeant parts s k post
  fence_meant q a v edges of told.Done e post among =
      absurd (fence_undone parts (suc l.applied) _ q a v edges (subst (λ (y : PartEntry). (applied parts (suc l.applied) y (machine_behind parts s p l.applied)).1 ≡ told.Done) of (was.is ∙ e)))
  fence_meant q a v edges of (told.Stale above) e post among = back_meant (says.Stale a v above) (λ end its. tt) post among
  fence_meant q a v edges of (told.Fenced b) e post among = back_meant (says.Fenced a v b)
      (λ end its. (let f = from_source end its q (ap source_of of) in record { part = q; term = f.0; receiver = f.1; fenced = fenced_of q a v edges b of e })) post among
  fence_meant q a v edges of told.Old e post among = absurd among
  fence_meant q a v edges of (told.Again outcome) e post among = absurd among
  fence_meant q a v edges of (told.Conflict other) e post among = absurd among
  fence_meant q a v edges of told.Skipped e post among = absurd among
  fence_meant q a v edges of (told.Begun w) e post among = absurd among
  fence_meant q a v edges of (told.Settled id) e post among = absurd among
  fence_meant q a v edges of (told.Doubled id) e post among = absurd among
  fence_meant q a v edges of (told.Closed id) e post among = absurd among
  fence_meant q a v edges of (told.Aborted id) e post among = absurd among
  fence_meant q a v edges of (told.Finished id) e post among = absurd among
  fence_meant q a v edges of told.Nothing e post among = absurd among

  backs_meant : (y : PartEntry) → x ≡ y → (post : Post) → Among post (posts_of p t (own_sender s p t l u) (back_of y r)) → IsMeant parts s k post
  backs_meant (entry.Remote q a v list) of post among = remote_meant q a v list of r refl post among
  backs_meant (entry.Fence q a v edges) of post among = fence_meant q a v edges of r refl post among
  backs_meant (entry.Prime id list absent) of post among = absurd among
  backs_meant (entry.Local v) of post among = absurd among
  backs_meant (entry.Double v) of post among = absurd among
  backs_meant (entry.Close v) of post among = absurd among
  backs_meant (entry.Abort v) of post among = absurd among
  backs_meant (entry.Vertex id op) of post among = absurd among
  backs_meant (entry.Read id query) of post among = absurd among

  -- all of them
  pub answers_meant : (post : Post) → Among post (posts_of p t (own_sender s p t l u) (answers_of (u == t) x r)) → IsMeant parts s k post
  answers_meant post = by_answer (answer_of x r) refl
    where
      backs : Among post (posts_of p t (own_sender s p t l u) (if u == t then back_of x r else [])) → IsMeant parts s k post
      backs = cond_both (u == t) (back_of x r) [] (λ (ls : List Letter). Among post (posts_of p t (own_sender s p t l u) ls) → IsMeant parts s k post) (λ _. backs_meant x refl post) (λ _ none. absurd none)

      by_answer : (o : Option (CallId × Answer)) → answer_of x r ≡ o → Among post (posts_of p t (own_sender s p t l u) (telling o ++ (if u == t then back_of x r else []))) → IsMeant parts s k post
      by_answer None e among = backs among
      by_answer (Some a) e among = elim among [
        | inl same ↦ subst (IsMeant parts s k) (sym same) (record { id = a.0; receiver = refl; its = refl; right = right_of a.0 a.1 e; known = never_unknown x r a.0 a.1 e })
        | inr rest ↦ backs rest
      ]

-- none of them is a Remote or a Fence
pub answers_quiet : (p t : ℕ) (sender : Option ChainEnd) (own : Bool) (x : PartEntry) (r : Applied) → AreQuiet (posts_of p t sender (answers_of own x r))
answers_quiet p t sender own x r post = by_answer (answer_of x r)
  where
    back_quiet : (b : ChainBody) → is_chains b ≡ false → (o : Option ChainEnd) → Among post (posts_of p t o (Back b ∷ [])) → is_chains post.packet.body ≡ false
    back_quiet b plain None among = absurd among
    back_quiet b plain (Some end) among = elim among [ inl same ↦ ap (λ (y : Post). is_chains y.packet.body) same ∙ plain | inr none ↦ absurd none ]

    replies_quiet : (a v : ℕ) (y : Applied) → Among post (posts_of p t sender (reply_to a v y)) → is_chains post.packet.body ≡ false
    replies_quiet a v told.Done among = back_quiet (says.Done a v) refl sender among
    replies_quiet a v (told.Stale above) among = back_quiet (says.Stale a v above) refl sender among
    replies_quiet a v (told.Fenced b) among = back_quiet (says.Fenced a v b) refl sender among
    replies_quiet a v told.Old among = absurd among
    replies_quiet a v (told.Again outcome) among = absurd among
    replies_quiet a v (told.Conflict other) among = absurd among
    replies_quiet a v told.Skipped among = absurd among
    replies_quiet a v (told.Begun w) among = absurd among
    replies_quiet a v (told.Settled id) among = absurd among
    replies_quiet a v (told.Doubled id) among = absurd among
    replies_quiet a v (told.Closed id) among = absurd among
    replies_quiet a v (told.Aborted id) among = absurd among
    replies_quiet a v (told.Finished id) among = absurd among
    replies_quiet a v told.Nothing among = absurd among

    backs_quiet : (y : PartEntry) → Among post (posts_of p t sender (back_of y r)) → is_chains post.packet.body ≡ false
    backs_quiet (entry.Remote q a v list) among = replies_quiet a v r among
    backs_quiet (entry.Fence q a v edges) among = replies_quiet a v r among
    backs_quiet (entry.Prime id list absent) among = absurd among
    backs_quiet (entry.Local v) among = absurd among
    backs_quiet (entry.Double v) among = absurd among
    backs_quiet (entry.Close v) among = absurd among
    backs_quiet (entry.Abort v) among = absurd among
    backs_quiet (entry.Vertex id op) among = absurd among
    backs_quiet (entry.Read id query) among = absurd among

    backs : Among post (posts_of p t sender (if own then back_of x r else [])) → is_chains post.packet.body ≡ false
    backs = cond_both own (back_of x r) [] (λ (ls : List Letter). Among post (posts_of p t sender ls) → is_chains post.packet.body ≡ false) (λ _. backs_quiet x) (λ _ none. absurd none)

    by_answer : (o : Option (CallId × Answer)) → Among post (posts_of p t sender (telling o ++ (if own then back_of x r else []))) → is_chains post.packet.body ≡ false
    by_answer None among = backs among
    by_answer (Some a) among = elim among [ inl same ↦ ap (λ (y : Post). is_chains y.packet.body) same | inr rest ↦ backs rest ]
