-- Each chain is of the call whose Prime has its number: behind a decision too.
use Rattle.std.proofs.Common.{◌≡◌, inl, inr, ℕ, zero, suc, List, [], ◌∷◌, ◌++◌, Option, None, Some, true, refl, ap, sym, ◌∙◌, Bool}
use Rattle.std.specs.Prelude.{slice_get}
use Rattle.std.specs.FinMap.{get}
use Rattle.std.proofs.lemmas.Option.{none-some}
use Rattle.graph_model.specs.declared.call_id.CallId.{CallId}
use Rattle.graph_model.specs.declared.edge_id.EdgeId.{EdgeId}
use Rattle.graph_model.specs.declared.half.Half.{Half}
use Rattle.graph_model.proofs.Places.{get_after}
use Rattle.maps.proofs.Keys.{nat_keys}
use Rattle.maps.proofs.Updates.{insert_here}
use Rattle.part_keys.specs.declared.proposal.Proposal.{Proposal}
use Rattle.part_keys.specs.declared.proposal.Proposal.TheVariants.{Start, Members, Made, Blank}
use Rattle.part_keys.specs.declared.entry.PartEntry.{PartEntry}
use Rattle.part_keys.specs.declared.entry.PartEntry.TheVariants.{Prime, Local, Double, Close, Abort, Remote, Fence, Vertex, Read}
use Rattle.part_rules.specs.declared.applied.Applied.{Applied}
use Rattle.part_rules.specs.declared.applied.Applied.TheVariants as told
use Rattle.part_rules.specs.Part.{Part}
use Rattle.part_rules.specs.Machine.{begun_at, applied}
use Rattle.part_rules.specs.Folded.{item_applied}
use Rattle.part_rules.proofs.FoldsCases.{prime_cases}
use Rattle.chain_world.specs.Ledger.{Ledger, machine_of, next_of, call_of, call_of_item, call_at, caller_of, decides}
use Rattle.chain_world.specs.Course.{Fate, Settled, Doubled, Closed, Aborted, Course, Courses, with_course, with_fate, with_wrote, course_of, coursed, item_coursed, recorded}
use Rattle.chain_world.specs.Invariant.Sound.{AreNamed}
use Rattle.chain_world.proofs.Setting.{set_split, set_here}
use Rattle.chain_world.proofs.Courses.{course_split}

-- what a Prime's answer says of the chain that it begins
pub record IfBegun (parts index : ℕ) (m : Part) (id : CallId) (list : List (EdgeId × Half)) (absent : Bool) (r : Part × Applied) : Type 0 where
  pub then : (v : ℕ) → r.1 ≡ told.Begun v → (v ≡ index) × (get r.0.chains index ≡ Some (begun_at parts m index id list absent))

pub begun_is : (parts index : ℕ) (m : Part) (id : CallId) (list : List (EdgeId × Half)) (absent : Bool) → IfBegun parts index m id list absent (applied parts index (Prime id list absent) m)
begun_is parts index m id list absent = prime_cases m (IfBegun parts index m id list absent) parts index id list absent
    (record { then = λ v e. cc }) (λ o. record { then = λ v e. cc }) (λ chain e. record { then = λ v f. cc }) (λ e leaves. record { then = λ v f. cc })
    (λ e some. record { then = λ v f. ((let g : v ≡ index = cc in g), insert_here nat_keys m.chains index (begun_at parts m index id list absent)) })

-- a course with another fate, or that wrote, was one before
pub fate_before : (fate : Fate) (o : Option Course) (c : Course) → with_fate fate o ≡ Some c → (old : Course) × (o ≡ Some old) × (record old { fate = fate } ≡ c)
fate_before fate None c e = cc
fate_before fate (Some old) c e = (old, refl, (let f : record old { fate = fate } ≡ c = cc in f))

pub wrote_before : (o : Option Course) (c : Course) → with_wrote o ≡ Some c → (old : Course) × (o ≡ Some old) × (record old { wrote = true } ≡ c)
wrote_before None c e = cc
wrote_before (Some old) c e = (old, refl, (let f : record old { wrote = true } ≡ c = cc in f))

-- the call of an item that stands in a list is so in the list with one item more
got_more : (xs : List (ℕ × Proposal)) (d : ℕ × Proposal) (i : ℕ) (id : CallId) → call_of (slice_get xs i) ≡ Some id → call_of (slice_get (xs ++ d ∷ []) i) ≡ Some id
got_more [] d i id e = absurd (none-some id e)
got_more (x ∷ xs) d zero id e = e
got_more (x ∷ xs) d (suc i) id e = got_more xs d i id e

call_more : (xs : List (ℕ × Proposal)) (d : ℕ × Proposal) (v : ℕ) (id : CallId) → call_at xs v ≡ Some id → call_at (xs ++ d ∷ []) v ≡ Some id
call_more xs d zero id e = absurd (none-some id e)
call_more xs d (suc i) id e = got_more xs d i id e

module _ (parts : ℕ) (l : Ledger) (k : Courses) (named : AreNamed (caller_of l) k) (p : ℕ) (d : ℕ × Proposal) where
  abbrev D : List (ℕ × Proposal)
  D = l.decided p

  abbrev caller : ℕ → ℕ → Option CallId
  caller = caller_of (decides parts l p d)

  -- what the entry leaves and is answered
  abbrev r : PartEntry → Part × Applied
  r e = applied parts (next_of l p) e (machine_of parts l p)

  -- a call stays
  stays : (q v : ℕ) (id : CallId) → caller_of l q v ≡ Some id → caller q v ≡ Some id
  stays q v id e = elim (set_split l.decided p (D ++ d ∷ []) q) [
    | inl here ↦ ap (λ xs. call_at xs v) here.1 ∙ call_more D d v id (ap (λ i. call_at (l.decided i) v) (sym here.0) ∙ e)
    | inr other ↦ ap (λ xs. call_at xs v) other.1 ∙ e
  ]

  old_one : (q w : ℕ) (c : Course) → k q w ≡ Some c → caller q w ≡ Some c.id
  old_one q w c is = stays q w c.id (named q w c is)

  -- the new one's call
  new_one : (x : Proposal) → d.1 ≡ x → caller p (next_of l p) ≡ call_of_item x
  new_one x is = ap (λ xs. call_at xs (next_of l p)) (set_here l.decided p (D ++ d ∷ [])) ∙ ap call_of (get_after D d []) ∙ ap call_of_item is

  fated : (v : ℕ) (fate : Fate) (q w : ℕ) (c : Course) → with_course k p v (with_fate fate (k p v)) q w ≡ Some c → caller q w ≡ Some c.id
  fated v fate q w c is = elim (course_split k p v (with_fate fate (k p v)) q w c is) [
    | inl here ↦
        (let b = fate_before fate (k p v) c here.2 in
        ap (λ i. caller i w) here.0 ∙ ap (caller p) here.1 ∙ old_one p v b.0 b.1 ∙ ap (λ (x : Course). Some x.id) b.2)
    | inr old ↦ old_one q w c old.1
  ]

  by_entry : (e : PartEntry) → d.1 ≡ Made e → (a : Applied) → (r e).1 ≡ a → (q w : ℕ) (c : Course) → coursed k p d.0 (r e).0 e a q w ≡ Some c → caller q w ≡ Some c.id
  by_entry (Prime id list absent) is (told.Begun n) a q w c f =
      let b = (begun_is parts (next_of l p) (machine_of parts l p) id list absent).then n a in
      elim (course_split k p n (course_of (get (r (Prime id list absent)).0.chains n)) q w c f) [
        | inl here ↦
            (let made : course_of (Some (begun_at parts (machine_of parts l p) (next_of l p) id list absent)) ≡ Some c = ap course_of (sym b.1) ∙ ap (λ i. course_of (get (r (Prime id list absent)).0.chains i)) (sym b.0) ∙ here.2 in
            let its : id ≡ c.id = cc in
            ap (λ i. caller i w) here.0 ∙ ap (caller p) (here.1 ∙ b.0) ∙ new_one (Made (Prime id list absent)) is ∙ ap (λ i. Some i) its)
        | inr old ↦ old_one q w c old.1
      ]
  by_entry (Prime id list absent) is answer a q w c f = old_one q w c f
  by_entry (Local v) is (told.Settled id) a q w c f = fated v Settled q w c f
  by_entry (Local v) is answer a q w c f = old_one q w c f
  by_entry (Double v) is (told.Doubled id) a q w c f = fated v Doubled q w c f
  by_entry (Double v) is answer a q w c f = old_one q w c f
  by_entry (Close v) is (told.Closed id) a q w c f = fated v Closed q w c f
  by_entry (Close v) is answer a q w c f = old_one q w c f
  by_entry (Abort v) is (told.Aborted id) a q w c f = fated v (Aborted d.0) q w c f
  by_entry (Abort v) is answer a q w c f = old_one q w c f
  by_entry (Remote from t v list) is told.Done a q w c f = elim (course_split k from v (with_wrote (k from v)) q w c f) [
    | inl here ↦
        (let b = wrote_before (k from v) c here.2 in
        ap (λ i. caller i w) here.0 ∙ ap (caller from) here.1 ∙ old_one from v b.0 b.1 ∙ ap (λ (x : Course). Some x.id) b.2)
    | inr old ↦ old_one q w c old.1
  ]
  by_entry (Remote from t v list) is answer a q w c f = old_one q w c f
  by_entry (Fence from t v edges) is answer a q w c f = old_one q w c f
  by_entry (Vertex id op) is answer a q w c f = old_one q w c f
  by_entry (Read id query) is answer a q w c f = old_one q w c f

  by_item : (x : Proposal) → d.1 ≡ x → (q w : ℕ) (c : Course)
      → item_coursed k p d.0 (item_applied parts (next_of l p) x (machine_of parts l p)).0 x (item_applied parts (next_of l p) x (machine_of parts l p)).1 q w ≡ Some c → caller q w ≡ Some c.id
  by_item Start is q w c f = old_one q w c f
  by_item (Members config) is q w c f = old_one q w c f
  by_item (Made e) is q w c f = by_entry e is (r e).1 refl q w c f
  by_item Blank is q w c f = old_one q w c f

  pub decided_named : AreNamed caller (recorded parts l k p d)
  decided_named q w c is = by_item d.1 refl q w c is
