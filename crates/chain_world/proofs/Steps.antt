-- Which calls the steps of a ledger make and answer: a decision makes and answers none.
use Rattle.std.proofs.Common.{◌≢◌, arith, ◌≡◌, ◌⊎◌, inl, inr, ℕ, suc, zero, ◌<◌, List, [], ◌∷◌, ◌++◌, length, take, Option, None, Some, Bool, true, false, cond, refl, ap, sym, subst, ◌∙◌}
use Rattle.std.specs.Prelude.{slice_get}
use Rattle.graph_model.specs.declared.call.Call.{Call}
use Rattle.graph_model.specs.declared.call_id.CallId.{CallId}
use Rattle.graph_model.specs.declared.graph_step.GStep.{GStep}
use Rattle.graph_model.specs.declared.graph_step.GStep.TheVariants.{Invoke, Reply}
use Rattle.graph_model.specs.Ops.{is_op, query_of}
use Rattle.graph_model.specs.Run.{is_outward, trace}
use Rattle.part_keys.specs.declared.proposal.Proposal.{Proposal}
use Rattle.part_keys.specs.declared.proposal.Proposal.TheVariants.{Start, Members, Made, Blank}
use Rattle.part_keys.specs.declared.entry.PartEntry.{PartEntry}
use Rattle.part_keys.specs.declared.entry.PartEntry.TheVariants.{Prime, Local, Double, Close, Abort, Remote, Fence, Vertex, Read}
use Rattle.part_rules.specs.declared.applied.Applied.{Applied}
use Rattle.part_rules.specs.declared.applied.Applied.TheVariants.{Conflict, Skipped, Begun, Settled, Doubled, Closed, Aborted, Finished}
use Rattle.part_rules.specs.Part.{Part}
use Rattle.chain_world.specs.Ledger.{primed_steps, ended_steps, vertex_steps, remote_steps, steps_of_entry, steps_of_item}
use Rattle.chain_world.specs.Invariant.Discipline.{IsOneOf, IsInvoked}
use Rattle.chain_world.specs.Invariant.Sound.{AreNoted}
use Rattle.chain_world.proofs.Progress.{Progress, found_later, found_before}

-- a step of two lists is one of either
pub one_of_left : (xs ys : List GStep) (s : GStep) → IsOneOf xs s → IsOneOf (xs ++ ys) s
one_of_left [] ys s is = absurd is
one_of_left (x ∷ xs) ys s (inl same) = inl same
one_of_left (x ∷ xs) ys s (inr more) = inr (one_of_left xs ys s more)

-- one of the second
pub one_of_right : (xs ys : List GStep) (s : GStep) → IsOneOf ys s → IsOneOf (xs ++ ys) s
one_of_right [] ys s is = is
one_of_right (x ∷ xs) ys s is = inr (one_of_right xs ys s is)

-- one of both is one of either
pub one_of_either : (xs ys : List GStep) (s : GStep) → IsOneOf (xs ++ ys) s → IsOneOf xs s ⊎ IsOneOf ys s
one_of_either [] ys s is = inr is
one_of_either (x ∷ xs) ys s (inl same) = inl (inl same)
one_of_either (x ∷ xs) ys s (inr more) = elim (one_of_either xs ys s more) [ inl l ↦ inl (inr l) | inr r ↦ inr r ]

-- none of the steps is a client's
abbrev pub AreInward : List GStep → Type 0
AreInward [] = Unit {0}
AreInward (s ∷ steps) = (is_outward s ≡ false) × AreInward steps

-- a client's step is none of them
pub none_outward : (steps : List GStep) → AreInward steps → (s : GStep) → is_outward s ≡ true → IsOneOf steps s → ⊥
none_outward [] inward s out is = is
none_outward (x ∷ steps) inward s out (inl same) = let t : false ≡ true = sym inward.0 ∙ ap is_outward same ∙ out in cc
none_outward (x ∷ steps) inward s out (inr more) = none_outward steps inward.1 s out more

-- the steps of a Prime
primed_inward : (id : CallId) (answer : Applied) → AreInward (primed_steps id answer)
primed_inward id (Begun v) = (refl, tt)
primed_inward id Skipped = (refl, tt)
primed_inward id (Conflict other) = (refl, tt)
primed_inward id answer = tt

-- of a Local, Double, Close, Abort
ended_inward : (answer : Applied) → AreInward (ended_steps answer)
ended_inward (Settled id) = (refl, (refl, tt))
ended_inward (Doubled id) = (refl, tt)
ended_inward (Closed id) = (refl, tt)
ended_inward (Aborted id) = (refl, tt)
ended_inward answer = tt

-- of a Vertex
vertex_inward : (id : CallId) (answer : Applied) → AreInward (vertex_steps id answer)
vertex_inward id (Finished call) = (refl, tt)
vertex_inward id Skipped = (refl, tt)
vertex_inward id answer = tt

-- of a Remote
remote_inward : (b : Bool) (call : Option CallId) → AreInward (remote_steps b call)
remote_inward true (Some id) = (refl, tt)
remote_inward true None = tt
remote_inward false call = tt

-- of any entry
entry_inward : (caller : ℕ → ℕ → Option CallId) (machine : Part) (entry : PartEntry) (answer : Applied) → AreInward (steps_of_entry caller machine entry answer)
entry_inward caller machine (Prime id list absent) answer = primed_inward id answer
entry_inward caller machine (Local v) answer = ended_inward answer
entry_inward caller machine (Double v) answer = ended_inward answer
entry_inward caller machine (Close v) answer = ended_inward answer
entry_inward caller machine (Abort v) answer = ended_inward answer
entry_inward caller machine (Remote from t v list) answer = remote_inward _ _
entry_inward caller machine (Fence from t v edges) answer = tt
entry_inward caller machine (Vertex id op) answer = vertex_inward id answer
entry_inward caller machine (Read id query) answer = tt

-- of any item
pub item_inward : (caller : ℕ → ℕ → Option CallId) (machine : Part) (x : Proposal) (answer : Applied) → AreInward (steps_of_item caller machine x answer)
item_inward caller machine Start answer = tt
item_inward caller machine (Members config) answer = tt
item_inward caller machine (Made entry) answer = entry_inward caller machine entry answer
item_inward caller machine Blank answer = tt

-- so they leave the trace as it is
pub inward_trace : (xs ys : List GStep) → AreInward ys → trace (xs ++ ys) ≡ trace xs
inward_trace [] [] inward = refl
inward_trace [] (y ∷ ys) inward = ap (λ b. cond b (y ∷ trace ys) (trace ys)) inward.0 ∙ inward_trace [] ys inward.1
inward_trace (x ∷ xs) ys inward = ap (λ t. cond (is_outward x) (x ∷ t) t) (inward_trace xs ys inward)

-- a step of the first n of two lists is one of the first n of the one, or of the other
taken_of : (n : ℕ) (ys : List GStep) (s : GStep) → IsOneOf (take n ys) s → (0 < n) × IsOneOf ys s
taken_of zero ys s is = absurd is
taken_of (suc n) [] s is = absurd is
taken_of (suc n) (y ∷ ys) s (inl same) = (omega arith, inl same)
taken_of (suc n) (y ∷ ys) s (inr more) = (omega arith, inr (taken_of n ys s more).1)

-- and of both, in either
pub taken_either : (xs ys : List GStep) (n : ℕ) (s : GStep) → IsOneOf (take n (xs ++ ys)) s → IsOneOf (take n xs) s ⊎ ((length xs < n) × IsOneOf ys s)
taken_either [] ys n s is = inr (taken_of n ys s is)
taken_either (x ∷ xs) ys zero s is = absurd is
taken_either (x ∷ xs) ys (suc n) s (inl same) = inl (inl same)
taken_either (x ∷ xs) ys (suc n) s (inr more) = elim (taken_either xs ys n s more) [
  | inl l ↦ inl (inr l)
  | inr r ↦ (let b = r.0 in inr (omega arith, r.1))
]

-- the calls that are noted, where calls go on and no client's step is taken
pub noted_on : (steps more : List GStep) (old new : CallId → Option Call) → AreNoted steps old → Progress old new → AreInward more → AreNoted (steps ++ more) new
noted_on steps more old new noted goes inward = record {
  invoked = λ id now is. (let b = found_before (old id) (new id) now (goes id) is in
      subst (λ o. IsInvoked (steps ++ more) id o) (sym b.holds.op) (one_of_left steps more (Invoke id b.its.op) (noted.invoked id b.its b.is)));
  known = λ id op is. elim (one_of_either steps more (Invoke id op) is) [
    | inl before ↦
        (let n = noted.known id op before in
        let l = found_later (old id) (new id) n.0 (goes id) n.1 in
        (l.its, l.is, l.holds.op ∙ n.2))
    | inr new_one ↦ absurd (none_outward more inward (Invoke id op) refl new_one)
  ];
  sized = λ id now is. (let b = found_before (old id) (new id) now (goes id) is in ap is_op b.holds.op ∙ noted.sized id b.its b.is);
  said = λ id now is said. (let b = found_before (old id) (new id) now (goes id) is in
      let r = noted.said id b.its b.is (sym b.holds.said ∙ said) in
      (r.0, one_of_left steps more (Reply id r.0) r.1));
  unread = λ id now is reads unsaid. (let b = found_before (old id) (new id) now (goes id) is in
      let r : query_of b.its.op ≢ None = λ e. reads (ap query_of b.holds.op ∙ e) in
      b.holds.unread r ∙ noted.unread id b.its b.is r (sym b.holds.said ∙ unsaid));
  moments = λ id now is n op among. (let b = found_before (old id) (new id) now (goes id) is in
      elim (taken_either steps more n (Invoke id op) among) [
        | inl before ↦ (let low = noted.moments id b.its b.is n op before in let m = b.holds.moment in omega arith)
        | inr new_one ↦ absurd (none_outward more inward (Invoke id op) refl new_one.1)
      ]);
}

-- an item of a list with one more is an item of the list, or the one more
pub one_more : {X : Type 0} (xs : List X) (x : X) (i : ℕ) (y : X) → slice_get (xs ++ x ∷ []) i ≡ Some y
    → ((slice_get xs i ≡ Some y) × (take i (xs ++ x ∷ []) ≡ take i xs)) ⊎ ((i ≡ length xs) × (take i (xs ++ x ∷ []) ≡ xs) × (x ≡ y))
one_more [] x zero y e = inr (refl, refl, (let f : x ≡ y = cc in f))
one_more [] x (suc i) y e = cc
one_more (z ∷ xs) x zero y e = inl (e, refl)
one_more (z ∷ xs) x (suc i) y e = elim (one_more xs x i y e) [
  | inl old ↦ inl (old.0, ap (λ l. z ∷ l) old.1)
  | inr new ↦ inr (ap suc new.0, ap (λ l. z ∷ l) new.1, new.2)
]
