-- Each item that a part may decide leads to a graph of which all holds again, and means what it is answered.
use Rattle.std.proofs.Common.{◌≡◌, inl, inr, ℕ, List, [], ◌∷◌, Option, None, true, false, ◌||◌, refl, ap, sym, subst, ◌∙◌, arith, leb-true}
use Rattle.std.specs.Prelude.{nat_le}
use Rattle.std.specs.FinMap.{get}
use Rattle.std.specs.Map.{keys_of}
use Rattle.std.proofs.lemmas.Bool.{cases_Bool, and_parts}
use Rattle.graph_model.specs.declared.answer.Answer.{Answer}
use Rattle.graph_model.specs.declared.call_id.CallId.{CallId}
use Rattle.graph_model.specs.declared.edge_id.EdgeId.{EdgeId}
use Rattle.graph_model.specs.declared.half.Half.{Half}
use Rattle.graph_model.specs.declared.graph_step.GStep.{GStep}
use Rattle.graph_model.specs.State.{GraphState}
use Rattle.graph_model.proofs.KeyLemmas.{edge_keys}
use Rattle.maps.proofs.Keys.{same_itself}
use Rattle.part_keys.specs.declared.proposal.Proposal.{Proposal}
use Rattle.part_keys.specs.declared.proposal.Proposal.TheVariants.{Start, Members, Made, Blank}
use Rattle.part_keys.specs.declared.entry.PartEntry.{PartEntry}
use Rattle.part_keys.specs.declared.entry.PartEntry.TheVariants.{Prime, Local, Double, Close, Abort, Remote, Fence, Vertex, Read}
use Rattle.part_keys.specs.Routing.{part_of}
use Rattle.part_rules.specs.declared.applied.Applied.{Applied}
use Rattle.part_rules.specs.declared.applied.Applied.TheVariants as answered
use Rattle.part_rules.specs.Part.{Part, number_of, all_written}
use Rattle.part_rules.specs.Machine.{applied, fenced}
use Rattle.part_rules.specs.Folded.{item_applied}
use Rattle.part_rules.proofs.FoldsCases.{local_cases, double_cases, close_cases, abort_cases, fence_cases}
use Rattle.chain_leader.specs.Calls.{answer_of}
use Rattle.chain_world.specs.Ledger.{steps_of_entry, steps_of_item}
use Rattle.chain_world.specs.Course.{Courses, is_aborted, has_edge, with_wrote, coursed, item_coursed}
use Rattle.chain_world.specs.Invariant.Discipline.{MeetsEntry, MeetsItem, IsRemoteOf, IsFenceOf}
use Rattle.chain_world.specs.Invariant.Sound.{Holds, AreNoted, AreNamed, HasWritten, HasWrittenOrEnded, IsTruth, kept_of}
use Rattle.chain_world.proofs.Setting.{set_at}
use Rattle.chain_world.proofs.Pends.{course_here}
use Rattle.chain_world.proofs.Beginning.{prime_reaches}
use Rattle.chain_world.proofs.Ending.{local_reaches, double_reaches, close_reaches, abort_reaches}
use Rattle.chain_world.proofs.Writing.{remote_reaches, fence_reaches}
use Rattle.chain_world.proofs.Vertices.{vertex_reaches}
use Rattle.chain_world.proofs.Reaching.{Reaches, Rises, still}

-- what an item tells a client
abbrev pub item_told : Proposal → Applied → Option (CallId × Answer)
item_told Start answer = None
item_told (Members config) answer = None
item_told (Made entry) answer = answer_of entry answer
item_told Blank answer = None

module _ (parts : ℕ) (machine : ℕ → Part) (next : ℕ → ℕ) (k : Courses) (g : GraphState) (holds : Holds parts machine next k g) (steps : List GStep) (noted : AreNoted steps (get g.calls))
    (caller : ℕ → ℕ → Option CallId) (named : AreNamed caller k) (p term : ℕ) (later : ℕ → ℕ) (rises : Rises next later p) where
  -- the part
  abbrev m : Part
  m = machine p

  -- what an entry leads to, by what it leaves and its answer
  abbrev pub Q : PartEntry → Part × Applied → Type 0
  Q entry r = Reaches parts (set_at machine p r.0) later k (coursed k p term r.0 entry r.1) g (steps_of_entry caller m entry r.1) (answer_of entry r.1)

  -- each entry that meets the discipline leads on
  pub entry_reaches : (entry : PartEntry) → MeetsEntry parts steps k m p entry → Q entry (applied parts (next p) entry m)
  entry_reaches (Prime id list absent) meets = prime_reaches parts machine next k g holds steps noted p term later rises id list absent meets
  entry_reaches (Local v) meets = local_cases m (Q (Local v)) v (still parts machine next k g holds p m refl refl refl refl refl later rises None (λ i a e. cc))
      (λ chain found single. local_reaches parts machine next k g holds p v later rises chain found single meets)
  entry_reaches (Double v) meets = double_cases m (Q (Double v)) v (still parts machine next k g holds p m refl refl refl refl refl later rises None (λ i a e. cc))
      (λ chain found single. double_reaches parts machine next k g holds p v later rises chain found single)
  entry_reaches (Close v) meets = close_cases m (Q (Close v)) v (still parts machine next k g holds p m refl refl refl refl refl later rises None (λ i a e. cc))
      (λ chain found double. close_reaches parts machine next k g holds p v later rises chain found double meets)
  entry_reaches (Abort v) meets = abort_cases m (Q (Abort v)) v (still parts machine next k g holds p m refl refl refl refl refl later rises None (λ i a e. cc))
      (λ chain found single. abort_reaches parts machine next k g holds p v later rises chain found term single meets)
  entry_reaches (Remote from t v list) meets = remote_reaches parts machine next k g holds caller p term later rises from t v list meets (named from v meets.course meets.begun)
  entry_reaches (Fence from t v edges) meets = fence_reaches parts machine next k g holds caller p term later rises from t v edges
  entry_reaches (Vertex id op) meets = vertex_reaches parts machine next k g holds steps noted p term later rises id op meets
  entry_reaches (Read id query) meets = still parts machine next k g holds p m refl refl refl refl refl later rises None (λ i a e. cc)

  -- and so does each item
  pub item_reaches : (x : Proposal) → MeetsItem parts steps k m p x
      → Reaches parts (set_at machine p (item_applied parts (next p) x m).0) later k (item_coursed k p term (item_applied parts (next p) x m).0 x (item_applied parts (next p) x m).1) g (steps_of_item caller m x (item_applied parts (next p) x m).1) (item_told x (item_applied parts (next p) x m).1)
  item_reaches Start meets = still parts machine next k g holds p m refl refl refl refl refl later rises None (λ i a e. cc)
  item_reaches (Members config) meets = still parts machine next k g holds p m refl refl refl refl refl later rises None (λ i a e. cc)
  item_reaches (Made entry) meets = entry_reaches entry meets
  item_reaches Blank meets = still parts machine next k g holds p m refl refl refl refl refl later rises None (λ i a e. cc)

  -- a Remote that is Done wrote
  done_means : (entry : PartEntry) (behind : Part) (answer : Applied) → MeetsEntry parts steps k m p entry → (from t v : ℕ) (list : List (EdgeId × Half)) → entry ≡ Remote from t v list → answer ≡ answered.Done
      → HasWritten (coursed k p term behind entry answer from v)
  done_means entry behind answer meets from t v list e a =
      let r : IsRemoteOf k m p from t v list = subst (MeetsEntry parts steps k m p) e meets in
      subst (λ x. HasWritten (coursed k p term behind entry x from v)) (sym a)
      (subst (λ x. HasWritten (coursed k p term behind x answered.Done from v)) (sym e)
      (record r.course { wrote = true }, course_here k from v _ ∙ ap with_wrote r.begun, refl))

  -- a Fence that found all numbers is of a chain that wrote or was aborted
  found_all : (from v : ℕ) (edges : List EdgeId) → IsFenceOf k p from v edges → all_written m v edges ≡ true → HasWrittenOrEnded (k from v)
  found_all from v edges meets all = elim (cases_Bool meets.course.wrote) [
    | inl wrote ↦ (meets.course, meets.begun, inl wrote)
    | inr unwritten ↦ elim (cases_Bool (is_aborted meets.course.fate)) [
      | inl aborted ↦ (meets.course, meets.begun, inr aborted)
      | inr alive ↦ absurd (go meets.course.list refl unwritten alive)
    ]
  ]
    where
      go : (list : List (EdgeId × Half)) → meets.course.list ≡ list → meets.course.wrote ≡ false → is_aborted meets.course.fate ≡ false → ⊥
      go [] is unwritten alive = holds.chains.some from v meets.course meets.begun is
      go (x ∷ rest) is unwritten alive =
          let on : has_edge meets.course.list x.0 ≡ true = ap (λ l. has_edge l x.0) is ∙ ap (λ b. b || has_edge rest x.0) (same_itself edge_keys x.0) in
          let low = holds.chains.unwritten from v meets.course meets.begun unwritten alive x.0 on in
          let home : part_of parts x.0.dst ≡ p = (holds.chains.routed from v meets.course meets.begun x.0 on).1 ∙ meets.remote in
          let number : kept_of parts machine x.0 ≡ number_of m x.0 = ap (λ q. number_of (machine q) x.0) home in
          let whole : all_written m v (x.0 ∷ keys_of rest) ≡ true = ap (all_written m v) (sym (ap keys_of is) ∙ meets.whole) ∙ all in
          let first = leb-true v (number_of m x.0) (and_parts (nat_le v (number_of m x.0)) (all_written m v (keys_of rest)) whole).0 in
          omega arith

  -- a Fence that found all numbers means it
  fence_means : (from t v : ℕ) (edges : List EdgeId) → IsFenceOf k p from v edges → (fenced m from t v edges).1 ≡ answered.Fenced true → HasWrittenOrEnded (k from v)
  fence_means from t v edges meets = fence_cases m (λ r. r.1 ≡ answered.Fenced true → HasWrittenOrEnded (k from v)) from t v edges (λ stale e. cc) (λ told e. found_all from v edges meets (let f : all_written m v edges ≡ true = cc in f))

  -- an entry means what it is answered
  pub entry_means : (entry : PartEntry) (meets : MeetsEntry parts steps k m p entry)
      → IsTruth (coursed k p term (applied parts (next p) entry m).0 entry (applied parts (next p) entry m).1) (get (entry_reaches entry meets).graph.calls) entry (applied parts (next p) entry m).1
  entry_means entry meets = record {
    told = (entry_reaches entry meets).rightly;
    done = done_means entry (applied parts (next p) entry m).0 (applied parts (next p) entry m).1 meets;
    fenced = λ from t v edges e a.
        (let f : IsFenceOf k p from v edges = subst (MeetsEntry parts steps k m p) e meets in
        subst (λ x. HasWrittenOrEnded (coursed k p term (applied parts (next p) entry m).0 entry x from v)) (sym a)
        (subst (λ x. HasWrittenOrEnded (coursed k p term (applied parts (next p) entry m).0 x (answered.Fenced true) from v)) (sym e)
        (fence_means from t v edges f (ap (λ x. (applied parts (next p) x m).1) (sym e) ∙ a))));
  }

  -- and so does an item that is an entry
  pub item_means : (x : Proposal) (meets : MeetsItem parts steps k m p x) (entry : PartEntry) → x ≡ Made entry
      → IsTruth (item_coursed k p term (item_applied parts (next p) x m).0 x (item_applied parts (next p) x m).1) (get (item_reaches x meets).graph.calls) entry (item_applied parts (next p) x m).1
  unfolding item_reaches
  item_means Start meets entry is = cc
  item_means (Members config) meets entry is = cc
  item_means Blank meets entry is = cc
  item_means (Made e) meets entry is =
      subst (λ z. IsTruth (coursed k p term (applied parts (next p) e m).0 e (applied parts (next p) e m).1) (get (entry_reaches e meets).graph.calls) z (applied parts (next p) e m).1)
      (let f : e ≡ entry = cc in f) (entry_means e meets)
