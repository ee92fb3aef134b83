-- What became of each chain is what the decided lists say, behind each decision.
use Rattle.std.proofs.Common.{◌≡◌, inl, inr, ℕ, suc, List, [], ◌∷◌, ◌++◌, length, take, Some, true, false, refl, ap, sym, subst, ◌∙◌, arith}
use Rattle.std.specs.FinMap.{get}
use Rattle.std.proofs.lemmas.Option.{slice_get_within}
use Rattle.graph_model.specs.declared.call_id.CallId.{CallId}
use Rattle.graph_model.specs.State.{GraphState}
use Rattle.graph_model.proofs.Places.{get_after}
use Rattle.part_keys.specs.declared.chain.PrimeRec.{PrimeRec}
use Rattle.part_keys.specs.declared.proposal.Proposal.{Proposal}
use Rattle.part_keys.specs.declared.proposal.Proposal.TheVariants.{Start, Members, Made, Blank}
use Rattle.part_keys.specs.declared.entry.PartEntry.{PartEntry}
use Rattle.part_keys.specs.declared.entry.PartEntry.TheVariants.{Prime, Local, Double, Close, Abort, Remote, Fence, Vertex, Read}
use Rattle.part_rules.specs.declared.applied.Applied.{Applied}
use Rattle.part_rules.specs.declared.applied.Applied.TheVariants as told
use Rattle.part_rules.specs.Part.{Part}
use Rattle.part_rules.specs.Machine.{taken_of, begun_at, applied}
use Rattle.part_rules.specs.Folded.{item_applied, folded}
use Rattle.part_rules.proofs.FoldsCases.{local_cases, double_cases, close_cases, abort_cases}
use Rattle.chain_world.specs.Ledger.{Ledger, blank_ledger, machine_of, next_of, decides}
use Rattle.chain_world.specs.Course.{Fate, Primed, Doubled, Settled, Closed, Aborted, Course, Courses, no_courses, with_course, with_fate, with_wrote, course_of, coursed, item_coursed, recorded}
use Rattle.chain_world.specs.Invariant.Discipline.{MeetsEntry, MeetsItem, MayDecide, WasAnswered}
use Rattle.chain_world.specs.Invariant.Sound.{IsSoundAt}
use Rattle.chain_world.specs.Founded.{IsBegunBy, WasSaid, HasFate, WasPut, IsFounded, AreFounded}
use Rattle.chain_world.proofs.Naming.{begun_is, fate_before, wrote_before}
use Rattle.chain_world.proofs.Setting.{set_split, set_here}
use Rattle.chain_world.proofs.Courses.{course_split}
use Rattle.chain_world.proofs.Pends.{found_same}
use Rattle.chain_world.proofs.Standing.{course_found}
use Rattle.chain_world.proofs.Growing.{Longer, longer_itself, longer_by_one, answered_on}

-- what an answer that shows or ends a chain says
record IfEnded (m : Part) (v : ℕ) (ends : CallId → Applied) (r : Part × Applied) : Type 0 where
  then : (id : CallId) → r.1 ≡ ends id → (chain : PrimeRec) × (get m.chains v ≡ Some chain) × (chain.id ≡ id)

-- Local
local_is : (parts index : ℕ) (m : Part) (v : ℕ) → IfEnded m v told.Settled (applied parts index (Local v) m)
local_is parts index m v = local_cases m (IfEnded m v told.Settled) v (record { then = λ id e. cc }) (λ chain found single. record { then = λ id e. (chain, found, (let f : chain.id ≡ id = cc in f)) })

-- Double
double_is : (parts index : ℕ) (m : Part) (v : ℕ) → IfEnded m v told.Doubled (applied parts index (Double v) m)
double_is parts index m v = double_cases m (IfEnded m v told.Doubled) v (record { then = λ id e. cc }) (λ chain found single. record { then = λ id e. (chain, found, (let f : chain.id ≡ id = cc in f)) })

-- Close
close_is : (parts index : ℕ) (m : Part) (v : ℕ) → IfEnded m v told.Closed (applied parts index (Close v) m)
close_is parts index m v = close_cases m (IfEnded m v told.Closed) v (record { then = λ id e. cc }) (λ chain found double. record { then = λ id e. (chain, found, (let f : chain.id ≡ id = cc in f)) })

-- Abort
abort_is : (parts index : ℕ) (m : Part) (v : ℕ) → IfEnded m v told.Aborted (applied parts index (Abort v) m)
abort_is parts index m v = abort_cases m (IfEnded m v told.Aborted) v (record { then = λ id e. cc }) (λ chain found single. record { then = λ id e. (chain, found, (let f : chain.id ≡ id = cc in f)) })

module _ (parts : ℕ) (old new : ℕ → List (ℕ × Proposal)) (longer : (q : ℕ) → Longer (old q) (new q)) where
  -- what lists say, longer lists say: of a Prime
  begun_on : (p v : ℕ) (c : Course) → IsBegunBy parts (old p) v c → IsBegunBy parts (new p) v c
  begun_on p v c b = record {
    place = b.place;
    term = b.term;
    whole = b.whole;
    absent = b.absent;
    number = b.number;
    answered = answered_on parts (old p) (new p) (longer p) b.place b.term _ _ b.answered;
    takes = b.takes ∙ ap (λ ds. taken_of (folded parts ds) b.whole b.absent) (sym ((longer p).front b.place (let w = slice_get_within (old p) b.place _ b.answered.there in omega arith)));
    remote = b.remote;
  }

  -- of any answer
  said_on : (p : ℕ) (of : PartEntry) (answer : Applied) → WasSaid parts (old p) of answer → WasSaid parts (new p) of answer
  said_on p of answer s = record { place = s.place; term = s.term; answered = answered_on parts (old p) (new p) (longer p) s.place s.term of answer s.answered }

  -- of a fate
  fate_on : (p v : ℕ) (id : CallId) (fate : Fate) → HasFate parts (old p) v id fate → HasFate parts (new p) v id fate
  fate_on p v id Primed f = tt
  fate_on p v id Doubled f = said_on p (Double v) (told.Doubled id) f
  fate_on p v id Settled f = said_on p (Local v) (told.Settled id) f
  fate_on p v id Closed f = said_on p (Close v) (told.Closed id) f
  fate_on p v id (Aborted t) f = (f.0, answered_on parts (old p) (new p) (longer p) f.0 t (Abort v) (told.Aborted id) f.1)

  -- of a Remote
  put_on : (q p v : ℕ) → WasPut parts (old q) p v → WasPut parts (new q) p v
  put_on q p v w = record { term = w.term; list = w.list; said = said_on q (Remote p w.term v w.list) told.Done w.said }

  -- of a chain
  founded_on : (p v : ℕ) (c : Course) → IsFounded parts old p v c → IsFounded parts new p v c
  founded_on p v c f = record { begun = begun_on p v c f.begun; fate = fate_on p v c.id c.fate f.fate; wrote = λ w. put_on c.remote p v (f.wrote w) }

  -- with another fate
  fated_on : (p v : ℕ) (c : Course) (fate : Fate) → IsFounded parts old p v c → HasFate parts (new p) v c.id fate → IsFounded parts new p v (record c { fate = fate })
  fated_on p v c fate f has = (let b = begun_on p v c f.begun in record {
    begun = record { place = b.place; term = b.term; whole = b.whole; absent = b.absent; number = b.number; answered = b.answered; takes = b.takes; remote = b.remote };
    fate = has;
    wrote = λ w. put_on c.remote p v (f.wrote w);
  })

  -- with its in-halves written
  written_on : (p v : ℕ) (c : Course) → IsFounded parts old p v c → WasPut parts (new c.remote) p v → IsFounded parts new p v (record c { wrote = true })
  written_on p v c f put = (let b = begun_on p v c f.begun in record {
    begun = record { place = b.place; term = b.term; whole = b.whole; absent = b.absent; number = b.number; answered = b.answered; takes = b.takes; remote = b.remote };
    fate = fate_on p v c.id c.fate f.fate;
    wrote = λ w. put;
  })

module _ (parts : ℕ) (l : Ledger) (k : Courses) (g : GraphState) (p : ℕ) (d : ℕ × Proposal) (sound : IsSoundAt parts l k g) (founded : AreFounded parts l.decided k) where
  -- the part's list and machine, and all lists behind the decision
  abbrev D : List (ℕ × Proposal)
  D = l.decided p

  abbrev m : Part
  m = machine_of parts l p

  abbrev new : ℕ → List (ℕ × Proposal)
  new = (decides parts l p d).decided

  -- each list is as long or longer
  longer : (q : ℕ) → Longer (l.decided q) (new q)
  longer q = elim (set_split l.decided p (D ++ d ∷ []) q) [
    | inl here ↦ subst (λ i. Longer (l.decided i) (new q)) (sym here.0) (subst (Longer D) (sym here.1) (longer_by_one D d))
    | inr other ↦ subst (Longer (l.decided q)) (sym other.1) (longer_itself (l.decided q))
  ]

  -- what the entry leaves and is answered
  abbrev r : PartEntry → Part × Applied
  r e = applied parts (next_of l p) e m

  -- the new entry is answered at its place
  said_here : (e : PartEntry) → d.1 ≡ Made e → WasAnswered parts (new p) (length D) d.0 e (r e).1
  said_here e is = subst (λ ds. WasAnswered parts ds (length D) d.0 e (r e).1) (sym (set_here l.decided p (D ++ d ∷ []))) (record {
    there = get_after D d [] ∙ ap (λ x. Some (d.0, x)) is;
    is = ap (λ ds. (item_applied parts (suc (length D)) (Made e) (folded parts ds)).1) ((longer_by_one D d).front (length D) (omega arith) ∙ whole_taken D);
  })
    where
      whole_taken : (xs : List (ℕ × Proposal)) → take (length xs) xs ≡ xs
      whole_taken [] = refl
      whole_taken (x ∷ xs) = ap (λ t. x ∷ t) (whole_taken xs)

  -- it is answered so
  said_as : (e : PartEntry) (answer : Applied) → d.1 ≡ Made e → (r e).1 ≡ answer → WasAnswered parts (new p) (length D) d.0 e answer
  said_as e answer is a = subst (WasAnswered parts (new p) (length D) d.0 e) a (said_here e is)

  -- a chain that doesn't change
  old_one : (q w : ℕ) (c : Course) → k q w ≡ Some c → IsFounded parts new q w c
  old_one q w c is = founded_on parts l.decided new longer q w c (founded q w c is)

  -- the fate of a chain that an entry of its part showed or ended
  fated : (v : ℕ) (fate : Fate) (ends : CallId → Applied) (e : PartEntry) → IfEnded m v ends (r e) → (id : CallId) → (r e).1 ≡ ends id → ((c : Course) → c.id ≡ id → HasFate parts (new p) v c.id fate)
      → (q w : ℕ) (c : Course) → with_course k p v (with_fate fate (k p v)) q w ≡ Some c → IsFounded parts new q w c
  fated v fate ends e if_ended id answered has q w c is = elim (course_split k p v (with_fate fate (k p v)) q w c is) [
    | inl here ↦
        (let b = fate_before fate (k p v) c here.2 in
        let chain = if_ended.then id answered in
        let kept = course_found v (k p v) chain.0 (sym (sound.holds.kept p v) ∙ chain.1) in
        let its : b.0.id ≡ id = ap (λ (x : Course). x.id) (found_same (k p v) b.0 kept.its b.1 kept.is) ∙ sym (ap (λ (x : PrimeRec). x.id) kept.same) ∙ chain.2 in
        subst (λ i. IsFounded parts new i w c) (sym here.0) (subst (λ i. IsFounded parts new p i c) (sym here.1)
        (subst (IsFounded parts new p v) b.2 (fated_on parts l.decided new longer p v b.0 fate (founded p v b.0 b.1) (has b.0 its)))))
    | inr old ↦ old_one q w c old.1
  ]

  -- each chain behind an entry
  by_entry : (e : PartEntry) → MeetsEntry parts l.steps k m p e → d.1 ≡ Made e → (a : Applied) → (r e).1 ≡ a → (q w : ℕ) (c : Course) → coursed k p d.0 (r e).0 e a q w ≡ Some c → IsFounded parts new q w c
  by_entry (Prime id list absent) meets is (told.Begun n) a q w c f =
      let b = (begun_is parts (next_of l p) m id list absent).then n a in
      elim (course_split k p n (course_of (get (r (Prime id list absent)).0.chains n)) q w c f) [
        | inl here ↦
            (let made : course_of (Some (begun_at parts m (next_of l p) id list absent)) ≡ Some c = ap course_of (sym b.1) ∙ ap (λ i. course_of (get (r (Prime id list absent)).0.chains i)) (sym b.0) ∙ here.2 in
            let course : record { id = id; remote = (begun_at parts m (next_of l p) id list absent).remote; list = taken_of m list absent; fate = Primed; wrote = false } ≡ c = cc in
            subst (λ i. IsFounded parts new i w c) (sym here.0) (subst (λ i. IsFounded parts new p i c) (sym here.1) (subst (IsFounded parts new p n) course (record {
              begun = record {
                place = length D;
                term = d.0;
                whole = list;
                absent = absent;
                number = b.0;
                answered = said_as (Prime id list absent) (told.Begun n) is a;
                takes = ap (λ ds. taken_of (folded parts ds) list absent) (sym (ap (take (length D)) (set_here l.decided p (D ++ d ∷ [])) ∙ (longer_by_one D d).front (length D) (omega arith) ∙ whole_of D));
                remote = refl;
              };
              fate = tt;
              wrote = λ x. cc;
            }))))
        | inr old ↦ old_one q w c old.1
      ]
    where
      whole_of : (xs : List (ℕ × Proposal)) → take (length xs) xs ≡ xs
      whole_of [] = refl
      whole_of (x ∷ xs) = ap (λ t. x ∷ t) (whole_of xs)
  by_entry (Prime id list absent) meets is answer a q w c f = old_one q w c f
  by_entry (Local v) meets is (told.Settled id) a q w c f = fated v Settled told.Settled (Local v) (local_is parts (next_of l p) m v) id a
      (λ x same. record { place = length D; term = d.0; answered = said_as (Local v) (told.Settled x.id) is (a ∙ ap told.Settled (sym same)) }) q w c f
  by_entry (Local v) meets is answer a q w c f = old_one q w c f
  by_entry (Double v) meets is (told.Doubled id) a q w c f = fated v Doubled told.Doubled (Double v) (double_is parts (next_of l p) m v) id a
      (λ x same. record { place = length D; term = d.0; answered = said_as (Double v) (told.Doubled x.id) is (a ∙ ap told.Doubled (sym same)) }) q w c f
  by_entry (Double v) meets is answer a q w c f = old_one q w c f
  by_entry (Close v) meets is (told.Closed id) a q w c f = fated v Closed told.Closed (Close v) (close_is parts (next_of l p) m v) id a
      (λ x same. record { place = length D; term = d.0; answered = said_as (Close v) (told.Closed x.id) is (a ∙ ap told.Closed (sym same)) }) q w c f
  by_entry (Close v) meets is answer a q w c f = old_one q w c f
  by_entry (Abort v) meets is (told.Aborted id) a q w c f = fated v (Aborted d.0) told.Aborted (Abort v) (abort_is parts (next_of l p) m v) id a
      (λ x same. (length D, said_as (Abort v) (told.Aborted x.id) is (a ∙ ap told.Aborted (sym same)))) q w c f
  by_entry (Abort v) meets is answer a q w c f = old_one q w c f
  by_entry (Remote from t v list) meets is told.Done a q w c f = elim (course_split k from v (with_wrote (k from v)) q w c f) [
    | inl here ↦
        (let b = wrote_before (k from v) c here.2 in
        let same : b.0 ≡ meets.course = found_same (k from v) b.0 meets.course b.1 meets.begun in
        let put : WasPut parts (new b.0.remote) from v = subst (λ i. WasPut parts (new i) from v) (sym (ap (λ (x : Course). x.remote) same ∙ meets.remote))
        (record { term = t; list = list; said = record { place = length D; term = d.0; answered = said_as (Remote from t v list) told.Done is a } }) in
        subst (λ i. IsFounded parts new i w c) (sym here.0) (subst (λ i. IsFounded parts new from i c) (sym here.1)
        (subst (IsFounded parts new from v) b.2 (written_on parts l.decided new longer from v b.0 (founded from v b.0 b.1) put))))
    | inr old ↦ old_one q w c old.1
  ]
  by_entry (Remote from t v list) meets is answer a q w c f = old_one q w c f
  by_entry (Fence from t v edges) meets is answer a q w c f = old_one q w c f
  by_entry (Vertex id op) meets is answer a q w c f = old_one q w c f
  by_entry (Read id query) meets is answer a q w c f = old_one q w c f

  -- and behind any item
  by_item : (x : Proposal) → MeetsItem parts l.steps k m p x → d.1 ≡ x → (q w : ℕ) (c : Course)
      → item_coursed k p d.0 (item_applied parts (next_of l p) x m).0 x (item_applied parts (next_of l p) x m).1 q w ≡ Some c → IsFounded parts new q w c
  by_item Start meets is q w c f = old_one q w c f
  by_item (Members config) meets is q w c f = old_one q w c f
  by_item (Made e) meets is q w c f = by_entry e meets is (r e).1 refl q w c f
  by_item Blank meets is q w c f = old_one q w c f

-- before the first entry
pub founded_blank : (parts : ℕ) → AreFounded parts blank_ledger.decided no_courses
founded_blank parts p v c is = cc

-- behind a decision
pub founded_decided : (parts : ℕ) (l : Ledger) (k : Courses) (g : GraphState) (p : ℕ) (d : ℕ × Proposal) → IsSoundAt parts l k g → MayDecide parts l k p d → AreFounded parts l.decided k
    → AreFounded parts (decides parts l p d).decided (recorded parts l k p d)
founded_decided parts l k g p d sound may founded q w c is = by_item parts l k g p d sound founded d.1 may refl q w c is
