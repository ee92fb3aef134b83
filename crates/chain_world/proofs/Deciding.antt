-- A decision that meets the discipline keeps a ledger sound.
use Rattle.std.proofs.Common.{◌≡◌, inl, inr, ℕ, suc, [], ◌∷◌, ◌++◌, length, length-append, Option, true, false, refl, ap, sym, subst, ◌∙◌, arith}
use Rattle.std.specs.FinMap.{get}
use Rattle.graph_model.specs.declared.answer.Answer.{Answer}
use Rattle.graph_model.specs.declared.call.Call.{Call}
use Rattle.graph_model.specs.declared.call_id.CallId.{CallId}
use Rattle.graph_model.specs.Lookups.{holds_of, is_right}
use Rattle.graph_model.specs.State.{GraphState, start}
use Rattle.graph_model.specs.Run.{trace}
use Rattle.graph_model.proofs.Runs.{run_append}
use Rattle.part_keys.specs.declared.proposal.Proposal.{Proposal}
use Rattle.part_keys.specs.declared.proposal.Proposal.TheVariants.{Made}
use Rattle.part_keys.specs.declared.entry.PartEntry.{PartEntry}
use Rattle.part_rules.specs.declared.applied.Applied.{Applied}
use Rattle.part_rules.specs.Part.{Part}
use Rattle.part_rules.specs.Folded.{item_applied, folded}
use Rattle.part_rules.proofs.FoldsLists.{folded_one_more}
use Rattle.chain_world.specs.Ledger.{Ledger, caller_of, machine_of, next_of, next_applied, steps_of_item, decides}
use Rattle.chain_world.specs.Course.{Fate, Primed, Doubled, Settled, Closed, Aborted, Courses, stands, is_aborted, recorded}
use Rattle.chain_world.specs.Invariant.ChainFacts.{GoOn}
use Rattle.chain_world.specs.Invariant.Discipline.{MayDecide, WasAnswered}
use Rattle.chain_world.specs.Invariant.Sound.{Holds, HasWritten, HasWrittenOrEnded, IsTruth, IsSoundAt, IsSound}
use Rattle.chain_world.proofs.Naming.{decided_named}
use Rattle.chain_world.proofs.Setting.{set_at, set_split}
use Rattle.chain_world.proofs.Entries.{item_told, item_reaches, item_means}
use Rattle.chain_world.proofs.Progress.{Progress, right_stays}
use Rattle.chain_world.proofs.Reaching.{Reaches, Rises}
use Rattle.chain_world.proofs.Steps.{item_inward, inward_trace, noted_on, one_more}

-- what an answered entry means goes on holding
aborted_stays : (fate : Fate) → is_aborted fate ≡ true → stands fate ≡ false
aborted_stays Primed a = sym a
aborted_stays Doubled a = sym a
aborted_stays Settled a = refl
aborted_stays Closed a = refl
aborted_stays (Aborted t) a = refl

-- a chain that wrote has written
pub written_on : (k l : Courses) → GoOn k l → (p v : ℕ) → HasWritten (k p v) → HasWritten (l p v)
written_on k l goes p v has = let n = goes p v has.0 has.1 in (n.0, n.1, n.2.wrote has.2)

-- one that wrote or was aborted is so
pub written_or_ended_on : (k l : Courses) → GoOn k l → (p v : ℕ) → HasWrittenOrEnded (k p v) → HasWrittenOrEnded (l p v)
written_or_ended_on k l goes p v has = let n = goes p v has.0 has.1 in elim (has.2) [
  | inl wrote ↦ (n.0, n.1, inl (n.2.wrote wrote))
  | inr aborted ↦ (n.0, n.1, inr (ap is_aborted (n.2.ended (aborted_stays has.0.fate aborted)) ∙ aborted))
]

-- an answered entry means the same later
pub meant_on : (k l : Courses) (old new : CallId → Option Call) (entry : PartEntry) (answer : Applied) → GoOn k l
    → ((id : CallId) (a : Answer) → holds_of (is_right a) (old id) ≡ true → holds_of (is_right a) (new id) ≡ true) → IsTruth k old entry answer → IsTruth l new entry answer
meant_on k l old new entry answer courses rights meant = record {
  told = λ id a tells. rights id a (meant.told id a tells);
  done = λ from term v list e is. written_on k l courses from v (meant.done from term v list e is);
  fenced = λ from term v edges e is. written_or_ended_on k l courses from v (meant.fenced from term v edges e is);
}

module _ (parts : ℕ) (l : Ledger) (k : Courses) (g : GraphState) (sound : IsSoundAt parts l k g) (p : ℕ) (d : ℕ × Proposal) (may : MayDecide parts l k p d) where
  -- what the decision leads to
  abbrev behind : Ledger
  behind = decides parts l p d

  abbrev later_courses : Courses
  later_courses = recorded parts l k p d

  abbrev r : Part × Applied
  r = next_applied parts l p d.1

  -- the list is longer by one
  longer : length (l.decided p ++ d ∷ []) ≡ suc (length (l.decided p))
  longer = (let a = length-append (l.decided p) (d ∷ []) in omega arith)

  -- so the part's next index rises
  pub rises : Rises (next_of l) (next_of behind) p
  rises = record {
    all = λ q. elim (set_split l.decided p (l.decided p ++ d ∷ []) q) [
      | inl here ↦ (let a = ap length here.1 in let b = longer in let c = ap (λ i. length (l.decided i)) here.0 in omega arith)
      | inr other ↦ (let a = ap length other.1 in omega arith)
    ];
    here = elim (set_split l.decided p (l.decided p ++ d ∷ []) p) [
      | inl here ↦ (let a = ap length here.1 in let b = longer in omega arith)
      | inr other ↦ absurd (other.0 refl)
    ];
  }

  abbrev pub reached : Reaches parts (set_at (machine_of parts l) p r.0) (next_of behind) k later_courses g (steps_of_item (caller_of l) (machine_of parts l p) d.1 r.1) (item_told d.1 r.1)
  reached = item_reaches parts (machine_of parts l) (next_of l) k g sound.holds l.steps sound.noted (caller_of l) sound.named p d.0 (next_of behind) rises d.1 may

  -- the machines behind it
  machines_are : (q : ℕ) → set_at (machine_of parts l) p r.0 q ≡ machine_of parts behind q
  machines_are q = elim (set_split (machine_of parts l) p r.0 q) [
    | inl here ↦ elim (set_split l.decided p (l.decided p ++ d ∷ []) q) [
      | inl also ↦ here.1 ∙ sym (folded_one_more parts (l.decided p) d) ∙ ap (folded parts) (sym also.1)
      | inr other ↦ absurd (other.0 here.0)
    ]
    | inr there ↦ elim (set_split l.decided p (l.decided p ++ d ∷ []) q) [
      | inl here ↦ absurd (there.0 here.0)
      | inr other ↦ there.1 ∙ ap (folded parts) (sym other.1)
    ]
  ]

  -- each chain goes on, and so does each call
  pub decided_goes : GoOn k later_courses
  decided_goes = reached.courses

  pub decided_progress : Progress (get g.calls) (get reached.graph.calls)
  decided_progress = reached.progress

  -- what was answered before, at any part
  old_means : (q i term : ℕ) (entry : PartEntry) (answer : Applied) → WasAnswered parts (l.decided q) i term entry answer → IsTruth later_courses (get reached.graph.calls) entry answer
  old_means q i term entry answer was = meant_on k later_courses (get g.calls) (get reached.graph.calls) entry answer reached.courses (λ id a. right_stays a (get g.calls id) (get reached.graph.calls id) (reached.progress id)) (sound.meant q i term entry answer was)

  -- what was answered at this part, the new item among it
  here_means : (i term : ℕ) (entry : PartEntry) (answer : Applied) → WasAnswered parts (l.decided p ++ d ∷ []) i term entry answer → IsTruth later_courses (get reached.graph.calls) entry answer
  here_means i term entry answer was = elim (one_more (l.decided p) d i (term, Made entry) was.there) [
    | inl old ↦ old_means p i term entry answer (record { there = old.0; is = ap (λ t. (item_applied parts (suc i) (Made entry) (folded parts t)).1) (sym old.1) ∙ was.is })
    | inr new ↦
        (let x : d.1 ≡ Made entry = ap (λ (e : ℕ × Proposal). e.1) new.2 in
        let a : r.1 ≡ answer = ap (λ y. (item_applied parts (next_of l p) y (machine_of parts l p)).1) x ∙ ap (λ n. (item_applied parts (suc n) (Made entry) (machine_of parts l p)).1) (sym new.0) ∙ ap (λ t. (item_applied parts (suc i) (Made entry) (folded parts t)).1) (sym new.1) ∙ was.is in
        subst (IsTruth later_courses (get reached.graph.calls) entry) a
        (item_means parts (machine_of parts l) (next_of l) k g sound.holds l.steps sound.noted (caller_of l) sound.named p d.0 (next_of behind) rises d.1 may entry x))
  ]

  -- all holds behind it
  pub decided_sound_at : IsSoundAt parts behind later_courses reached.graph
  decided_sound_at = record {
    run = run_append start l.steps (steps_of_item (caller_of l) (machine_of parts l p) d.1 r.1) g reached.graph sound.run reached.run;
    holds = subst (λ f. Holds parts f (next_of behind) later_courses reached.graph) (λ i q. machines_are q i) reached.holds;
    named = decided_named parts l k sound.named p d;
    noted = noted_on l.steps (steps_of_item (caller_of l) (machine_of parts l p) d.1 r.1) (get g.calls) (get reached.graph.calls) sound.noted reached.progress (item_inward (caller_of l) (machine_of parts l p) d.1 r.1);
    meant = λ q i term entry answer was. elim (set_split l.decided p (l.decided p ++ d ∷ []) q) [
      | inl here ↦ here_means i term entry answer (subst (λ ds. WasAnswered parts ds i term entry answer) here.1 was)
      | inr other ↦ old_means q i term entry answer (subst (λ ds. WasAnswered parts ds i term entry answer) other.1 was)
    ];
  }

-- a decision that meets the discipline keeps a ledger sound
pub decides_sound : (parts : ℕ) (l : Ledger) (k : Courses) → IsSound parts l k → (p : ℕ) (d : ℕ × Proposal) → MayDecide parts l k p d → IsSound parts (decides parts l p d) (recorded parts l k p d)
decides_sound parts l k sound p d may = record { graph = (reached parts l k sound.graph sound.sound p d may).graph; sound = decided_sound_at parts l k sound.graph sound.sound p d may }

-- each chain goes on
pub decides_goes : (parts : ℕ) (l : Ledger) (k : Courses) → IsSound parts l k → (p : ℕ) (d : ℕ × Proposal) → MayDecide parts l k p d → GoOn k (recorded parts l k p d)
decides_goes parts l k sound p d may = decided_goes parts l k sound.graph sound.sound p d may

-- the trace stays
pub decides_trace : (parts : ℕ) (l : Ledger) (p : ℕ) (d : ℕ × Proposal) → trace (decides parts l p d).steps ≡ trace l.steps
decides_trace parts l p d = inward_trace l.steps _ (item_inward (caller_of l) (machine_of parts l p) d.1 (next_applied parts l p d.1).1)
