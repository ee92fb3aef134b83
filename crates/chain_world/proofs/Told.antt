-- Each answer that an entry told has a cause.
use Rattle.std.proofs.Common.{◌≡◌, ◌⊎◌, inl, inr, ℕ, suc, List, take, Option, None, Some, Bool, ◌&&◌, refl, ap, sym, subst, ◌∙◌}
use Rattle.std.specs.FinMap.{get, insert, contains_key}
use Rattle.std.specs.Map.{keys_of}
use Rattle.std.specs.Option.{option_map, unwrap_or}
use Rattle.std.proofs.lemmas.Bool.{cond_both}
use Rattle.graph_model.specs.declared.answer.Answer.{Answer}
use Rattle.graph_model.specs.declared.answer.Answer.TheVariants as said
use Rattle.graph_model.specs.declared.call_id.CallId.{CallId}
use Rattle.graph_model.specs.declared.edge_id.EdgeId.{EdgeId}
use Rattle.graph_model.specs.declared.half.Half.{Half}
use Rattle.graph_model.specs.declared.op.Op.{Op}
use Rattle.graph_model.specs.declared.op.Op.TheVariants.{PutEdges, DelEdges, PutVertex, DelVertex, Read as ReadOp}
use Rattle.part_keys.specs.declared.chain.PrimeRec.{PrimeRec}
use Rattle.part_keys.specs.declared.entry.PartEntry.{PartEntry}
use Rattle.part_keys.specs.declared.entry.PartEntry.TheVariants.{Prime, Local, Double, Close, Abort, Remote, Fence, Vertex, Read}
use Rattle.part_rules.specs.declared.applied.Applied.{Applied}
use Rattle.part_rules.specs.declared.applied.Applied.TheVariants.{Old, Again, Conflict, Skipped, Begun, Settled, Doubled, Closed, Aborted, Stale, Done, Fenced, Finished, Nothing}
use Rattle.part_rules.specs.declared.kept.Kept.{Kept}
use Rattle.part_rules.specs.declared.kept.Outcome.{Outcome}
use Rattle.part_rules.specs.declared.kept.Outcome.TheVariants as kept
use Rattle.part_rules.specs.Part.{Part, chain_on_any}
use Rattle.part_rules.specs.Machine.{keeping, leaves_all, beginning, primed_by, where_new, vertex_written, applied}
use Rattle.part_rules.specs.Folded.{folded}
use Rattle.chain_leader.specs.Calls.{call_in, answer_of, kept_answer}
use Rattle.chain_world.specs.Ledger.{Ledger}
use Rattle.chain_world.specs.Invariant.Discipline.{WasTold}
use Rattle.chain_world.specs.Invariant.Causing.{Causes, IsCaused}
use Rattle.chain_world.proofs.NewCalls.{new_cases}
use Rattle.chain_world.proofs.Caused.{answer_as, kept_has_cause}

-- what is told
abbrev told : CallId → Answer → Option (CallId × Answer)
told id a = Some (id, a)

-- an answer to the call of an entry
caller_is : (o : Option CallId) (b : Answer) (id : CallId) (a : Answer) → option_map (λ (i : CallId). (i, b)) o ≡ told id a → (o ≡ Some id) × (b ≡ a)
caller_is None b id a e = (let f : None ≡ told id a = e in cc)
caller_is (Some j) b id a e =
    let p : ◌≡◌ {A = CallId × Answer} (j, b) (id, a) = ap (λ (o : Option (CallId × Answer)). unwrap_or o (j, b)) e in
    (ap (λ (t : CallId × Answer). Some t.0) p, ap (λ (t : CallId × Answer). t.1) p)

-- the answer of an ended chain
ended_is : (j : CallId) (b : Answer) (id : CallId) (a : Answer) → told j b ≡ told id a → (j ≡ id) × (b ≡ a)
ended_is j b id a e =
    let p : ◌≡◌ {A = CallId × Answer} (j, b) (id, a) = ap (λ (o : Option (CallId × Answer)). unwrap_or o (j, b)) e in
    (ap (λ (t : CallId × Answer). t.0) p, ap (λ (t : CallId × Answer). t.1) p)

-- an outcome that is told again is that of the entry's call
again_is : (entry : PartEntry) (o : Outcome) (id : CallId) (a : Answer) → kept_answer entry o ≡ told id a → (call_in entry ≡ Some id) × (answer_as o ≡ Some a)
again_is entry kept.Open id a e = (let f : None ≡ told id a = e in cc)
again_is entry kept.Fine id a e = let c = caller_is (call_in entry) said.Fine id a e in (c.0, ap (λ x. Some x) c.1)
again_is entry kept.Skipped id a e = let c = caller_is (call_in entry) said.Skipped id a e in (c.0, ap (λ x. Some x) c.1)
again_is entry kept.Pending id a e = let c = caller_is (call_in entry) said.Pending id a e in (c.0, ap (λ x. Some x) c.1)
again_is entry kept.Cancelled id a e = let c = caller_is (call_in entry) said.Cancelled id a e in (c.0, ap (λ x. Some x) c.1)
again_is entry (kept.Conflict other) id a e = let c = caller_is (call_in entry) (said.Conflict other) id a e in (c.0, ap (λ x. Some x) c.1)

-- the entry is the cause, or tells an outcome again
abbrev ToldBy : PartEntry → Applied → CallId → Answer → Type 0
ToldBy entry answer id a = Causes entry answer id a ⊎ ((o : Outcome) × (answer ≡ Again o) × (call_in entry ≡ Some id) × (answer_as o ≡ Some a))

-- each answer that is told is one or the other
told_by : (entry : PartEntry) (answer : Applied) (id : CallId) (a : Answer) → answer_of entry answer ≡ told id a → ToldBy entry answer id a
told_by entry Old id a e = (let f : None ≡ told id a = e in cc)
told_by entry (Again o) id a e = let c = again_is entry o id a e in inr (o, refl, c.0, c.1)
told_by entry (Conflict other) id a e = let c = caller_is (call_in entry) (said.Conflict other) id a e in inl (subst (Causes entry (Conflict other) id) c.1 (c.0, refl))
told_by entry Skipped id a e = let c = caller_is (call_in entry) said.Skipped id a e in inl (subst (Causes entry Skipped id) c.1 (c.0, refl))
told_by entry (Begun v) id a e = (let f : None ≡ told id a = e in cc)
told_by entry (Settled j) id a e = let c = ended_is j said.Fine id a e in inl (subst (Causes entry (Settled j) id) c.1 (inl (ap (λ i. Settled i) c.0)))
told_by entry (Doubled j) id a e = let c = ended_is j said.Pending id a e in inl (subst (Causes entry (Doubled j) id) c.1 (ap (λ i. Doubled i) c.0))
told_by entry (Closed j) id a e = let c = ended_is j said.Fine id a e in inl (subst (Causes entry (Closed j) id) c.1 (inr (inl (ap (λ i. Closed i) c.0))))
told_by entry (Aborted j) id a e = let c = ended_is j said.Cancelled id a e in inl (subst (Causes entry (Aborted j) id) c.1 (ap (λ i. Aborted i) c.0))
told_by entry (Stale t) id a e = (let f : None ≡ told id a = e in cc)
told_by entry Done id a e = (let f : None ≡ told id a = e in cc)
told_by entry (Fenced b) id a e = (let f : None ≡ told id a = e in cc)
told_by entry (Finished j) id a e = let c = ended_is j said.Fine id a e in inl (subst (Causes entry (Finished j) id) c.1 (inr (inr (ap (λ i. Finished i) c.0))))
told_by entry Nothing id a e = (let f : None ≡ told id a = e in cc)

-- a call that is answered again is the client's last one
record IsLastOf (m : Part) (id : CallId) (o : Outcome) : Type 0 where
  last : Kept
  is : get m.clients id.client ≡ Some last
  number : id.number ≡ last.number
  outcome : last.outcome ≡ o

-- what holds if an entry is answered again
record IfAgain (m : Part) (id : CallId) (r : Part × Applied) : Type 0 where
  then : (o : Outcome) → r.1 ≡ Again o → IsLastOf m id o

module _ (parts index : ℕ) (m : Part) where
  -- a Vertex that is new isn't
  written_again : (id : CallId) (op : Op) → IfAgain m id (vertex_written m id op)
  written_again id (PutVertex v tag row absent) = cond_both (absent && contains_key m.tags (record { vid = v; tag = tag })) (keeping m id kept.Skipped, Skipped) (record (keeping m id kept.Fine) { tags = insert m.tags (record { vid = v; tag = tag }) row }, Finished id) (IfAgain m id)
      (λ there. record { then = λ o e. cc }) (λ none. record { then = λ o e. cc })
  written_again id (DelVertex v) = record { then = λ o e. cc }
  written_again id (PutEdges rows absent) = record { then = λ o e. cc }
  written_again id (DelEdges edges) = record { then = λ o e. cc }
  written_again id (ReadOp q) = record { then = λ o e. cc }

  -- nor is a Prime
  primed_again : (id : CallId) (list : List (EdgeId × Half)) (absent : Bool) (c : Option PrimeRec) → IfAgain m id (primed_by parts m index id list absent c)
  primed_again id list absent (Some chain) = record { then = λ o e. cc }
  primed_again id list absent None = cond_both (leaves_all m list absent) (keeping m id kept.Skipped, Skipped) (beginning parts m index id list absent, Begun index) (IfAgain m id)
      (λ leaves. record { then = λ o e. cc }) (λ some. record { then = λ o e. cc })

  -- a call of a part is, if it is the client's last one
  new_again : (id : CallId) (next : Part × Applied) → IfAgain m id next → IfAgain m id (where_new m id next)
  new_again id next goes = new_cases m (IfAgain m id) id next (record { then = λ o e. cc })
      (λ last is same. record { then = λ o e. record { last = last; is = is; number = same; outcome = (let f : last.outcome ≡ o = cc in f) } }) (λ above. goes)

  -- only a call's own entry is answered so
  entry_again : (entry : PartEntry) (id : CallId) (o : Outcome) → call_in entry ≡ Some id → (applied parts index entry m).1 ≡ Again o → IsLastOf m id o
  entry_again (Prime j list absent) id o its e = subst (λ i. IsLastOf m i o) (let f : j ≡ id = cc in f) ((new_again j (primed_by parts m index j list absent (chain_on_any m (keys_of list))) (primed_again j list absent (chain_on_any m (keys_of list)))).then o e)
  entry_again (Vertex j op) id o its e = subst (λ i. IsLastOf m i o) (let f : j ≡ id = cc in f) ((new_again j (vertex_written m j op) (written_again j op)).then o e)
  entry_again (Read j query) id o its e = cc
  entry_again (Local v) id o its e = cc
  entry_again (Double v) id o its e = cc
  entry_again (Close v) id o its e = cc
  entry_again (Abort v) id o its e = cc
  entry_again (Remote from term v list) id o its e = cc
  entry_again (Fence from term v edges) id o its e = cc

-- each answer that was told has a cause
pub told_has_cause : (parts : ℕ) (l : Ledger) (id : CallId) (a : Answer) → (was : WasTold parts l id a) → IsCaused parts (l.decided was.part) id a
told_has_cause parts l id a was = elim (told_by was.entry was.answer id a was.tells) [
  | inl causes ↦ record { place = was.place; term = was.term; entry = was.entry; answer = was.answer; answered = was.answered; causes = causes }
  | inr again ↦
      (let m = folded parts (take was.place (l.decided was.part)) in
      let n = entry_again parts (suc was.place) m was.entry id again.0 again.2 (was.answered.is ∙ again.1) in
      subst (λ i. IsCaused parts (l.decided was.part) i a) (ap (λ (j : ℕ). record { client = id.client; number = j }) (sym n.number))
      (kept_has_cause parts (l.decided was.part) was.place id.client n.last a n.is (ap answer_as n.outcome ∙ again.3)))
]
