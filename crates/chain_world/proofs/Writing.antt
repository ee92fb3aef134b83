-- Remote and Fence: of a chain that stands and did not write, all in-halves are written; of any other, none.
use Rattle.std.proofs.Common.{◌≡◌, inl, inr, ℕ, ◌<◌, ◌≤◌, List, [], ◌∷◌, Option, None, Some, true, false, ◌&&◌, refl, ap, sym, subst, ◌∙◌, arith}
use Rattle.std.specs.Prelude.{not}
use Rattle.std.specs.FinMap.{get}
use Rattle.std.specs.List.{list_any}
use Rattle.std.proofs.lemmas.Bool.{cases_Bool, lt-ltb}
use Rattle.graph_model.specs.declared.call_id.CallId.{CallId}
use Rattle.graph_model.specs.declared.edge_id.EdgeId.{EdgeId}
use Rattle.graph_model.specs.declared.half.Half.{Half}
use Rattle.graph_model.specs.declared.graph_step.GStep.TheVariants.{InHalf}
use Rattle.graph_model.specs.After.{after_in}
use Rattle.graph_model.specs.Contents.{in_written as graph_in}
use Rattle.graph_model.specs.State.{GraphState, with_in_done}
use Rattle.graph_model.proofs.KeyLemmas.{call_keys}
use Rattle.graph_model.proofs.Pends.{in_taken}
use Rattle.maps.proofs.Keys.{same_or_apart}
use Rattle.part_keys.specs.declared.entry.PartEntry.{PartEntry}
use Rattle.part_keys.specs.declared.entry.PartEntry.TheVariants.{Remote, Fence}
use Rattle.part_keys.specs.Routing.{part_of}
use Rattle.part_rules.specs.declared.applied.Applied.{Applied}
use Rattle.part_rules.specs.declared.applied.Applied.TheVariants.{Stale, Done}
use Rattle.part_rules.specs.Part.{Part, number_of, guard_of, is_stale, is_fresh}
use Rattle.part_rules.specs.Machine.{raising, in_written, remoted, fenced}
use Rattle.part_rules.proofs.FoldsCases.{remote_cases, fence_cases}
use Rattle.chain_leader.specs.Calls.{answer_of}
use Rattle.chain_world.specs.Ledger.{remote_steps, steps_of_entry}
use Rattle.chain_world.specs.Course.{Course, Courses, has_edge, stands, is_settled, is_aborted, with_course, with_wrote, prime_of, coursed}
use Rattle.chain_world.specs.Invariant.Discipline.{IsRemoteOf}
use Rattle.chain_world.specs.Invariant.Sound.{chain_of, IsServed, AreHalves, AreKept, Holds, kept_of}
use Rattle.chain_world.proofs.Setting.{set_at, Moves, is_apart, altered_moves}
use Rattle.chain_world.proofs.Pends.{place_split, course_here, course_apart, pends_go_on}
use Rattle.chain_world.proofs.Clients.{calls_same}
use Rattle.chain_world.proofs.Courses.{not_aborted, stands_else, nothing_changes}
use Rattle.chain_world.proofs.CoursesWrite.{writes}
use Rattle.chain_world.proofs.EdgesIn.{writes_none, writes_one, kept_on, kept_off, left, halves_in}
use Rattle.chain_world.proofs.Progress.{go_set, no_progress}
use Rattle.chain_world.proofs.Reaching.{Reaches, Rises, clients_stay, kept_stay, still}

-- a course that is set to what it is changes nothing
course_set : (k : Courses) (p v : ℕ) (o : Option Course) → o ≡ k p v → with_course k p v o ≡ k
course_set k p v o same i q w = go q w i
  where
    go : (q w : ℕ) → with_course k p v o q w ≡ k q w
    go q w = elim (place_split p v q w) [
      | inl here ↦ ap (λ j. with_course k p v o j w) here.0 ∙ ap (with_course k p v o p) here.1 ∙ course_here k p v o ∙ same ∙ ap (k p) (sym here.1) ∙ ap (λ j. k j w) (sym here.0)
      | inr apart ↦ course_apart k p v o q w apart
    ]

-- a look-up that doesn't change
no_moves : {X : Type 0} (f : CallId → Option X) (id : CallId) (x : X) → f id ≡ Some x → Moves f f id (Some x)
no_moves f id x is = record {
  here = is;
  each = λ i. elim (same_or_apart call_keys i id) [
    | inl same ↦ inl same
    | inr apart ↦ inr (is_apart i id apart, refl)
  ];
}

module _ (parts : ℕ) (machine : ℕ → Part) (next : ℕ → ℕ) (k : Courses) (g : GraphState) (holds : Holds parts machine next k g)
    (caller : ℕ → ℕ → Option CallId) (p at_term : ℕ) (later : ℕ → ℕ) (rises : Rises next later p) (from term v : ℕ) where
  -- the part
  abbrev m : Part
  m = machine p

  module _ (list : List (EdgeId × Half)) (meets : IsRemoteOf k m p from term v list) (named : caller from v ≡ Some meets.course.id) where
    abbrev entry : PartEntry
    entry = Remote from term v list

    -- what the entry leads to, by what it leaves and its answer
    abbrev Q : Part × Applied → Type 0
    Q r = Reaches parts (set_at machine p r.0) later k (coursed k p at_term r.0 entry r.1) g (steps_of_entry caller m entry r.1) (answer_of entry r.1)

    -- a Remote that comes too late
    stale : is_stale m from term ≡ true → Q (m, Stale (guard_of m from))
    stale e = subst (λ b. Reaches parts (set_at machine p m) later k k g (remote_steps (not b && list_any (is_fresh m v) list) (caller from v)) None) (sym e) (still parts machine next k g holds p m refl refl refl refl refl later rises None (λ i a e. cc))

    abbrev x : Part
    x = record (raising m from term) { inn = in_written m v list }

    on_list : (e : EdgeId) → has_edge list e ≡ true → has_edge meets.course.list e ≡ true
    on_list e on = ap (λ l. has_edge l e) meets.whole ∙ on

    home : (e : EdgeId) → has_edge list e ≡ true → part_of parts e.dst ≡ p
    home e on = (holds.chains.routed from v meets.course meets.begun e (on_list e on)).1 ∙ meets.remote

    number : (e : EdgeId) → has_edge list e ≡ true → kept_of parts machine e ≡ number_of m e
    number e on = ap (λ q. number_of (machine q) e) (home e on)

    -- the chain wrote before: nothing is written, and nothing changes
    again : is_stale m from term ≡ false → meets.course.wrote ≡ true → Q (x, Done)
    again e wrote =
        subst (λ b. Reaches parts (set_at machine p x) later k (with_course k from v (with_wrote (k from v))) g (remote_steps (not b && list_any (is_fresh m v) list) (caller from v)) None) (sym e)
        (subst (λ b. Reaches parts (set_at machine p x) later k (with_course k from v (with_wrote (k from v))) g (remote_steps b (caller from v)) None) (sym (writes_none m v list high))
        (subst (λ l. Reaches parts (set_at machine p x) later k l g [] None) (sym (course_set k from v (with_wrote (k from v)) same))
        (still parts machine next k g holds p x refl refl (left parts machine p x v list high refl) refl refl later rises None (λ i a e. cc))))
      where
        high : (i : EdgeId) → has_edge list i ≡ true → v ≤ number_of m i
        high i on = let w = holds.chains.written from v meets.course meets.begun wrote i (on_list i on) in let n = number i on in omega arith

        same : with_wrote (k from v) ≡ k from v
        same = ap with_wrote meets.begun ∙ ap (λ b. Some (record meets.course { wrote = b })) (sym wrote) ∙ sym meets.begun

    -- it stands and did not write: all of its in-halves are written
    first : is_stale m from term ≡ false → meets.course.wrote ≡ false → Q (x, Done)
    first e unwritten =
        subst (λ b. Reaches parts (set_at machine p x) later k (with_course k from v (with_wrote (k from v))) g (remote_steps (not b && list_any (is_fresh m v) list) (caller from v)) None) (sym e)
        (subst (λ b. Reaches parts (set_at machine p x) later k (with_course k from v (with_wrote (k from v))) g (remote_steps b (caller from v)) None) (sym (writes_one m v list some low))
        (subst (λ o. Reaches parts (set_at machine p x) later k (with_course k from v (with_wrote (k from v))) g (remote_steps true o) None) (sym named)
        (subst (λ o. Reaches parts (set_at machine p x) later k (with_course k from v o) g (InHalf meets.course.id ∷ []) None) (sym (ap with_wrote meets.begun))
        (record {
          graph = h;
          run = (h, in_taken g meets.course.id (record { chain = chain_of meets.course; found = pending; undone = unwritten }), refl);
          holds = record {
            halves = subst (λ l. AreHalves parts (set_at machine p x) (graph_in g.contents l)) (sym meets.whole)
                (halves_in parts machine p x v list g.contents holds.halves home low refl refl refl);
            chains = nothing_changes (part_of parts) (with_course k from v (Some d)) next (kept_of parts (set_at machine p x))
                (writes (part_of parts) k next (kept_of parts machine) holds.chains from v meets.course meets.begun standing unwritten (kept_of parts (set_at machine p x))
                (λ i on. (let o = sym (ap (λ l. has_edge l i) meets.whole) ∙ on in kept_on parts machine p x v list i o (home i o) (low i o) refl))
                (λ i off. kept_off parts machine p x v list i (sym (ap (λ l. has_edge l i) meets.whole) ∙ off) refl))
                later rises.all;
            kept = kept_wrote;
            pends = pends_go_on parts k (get g.pend) (get g.calls) holds.pends from v meets.course meets.begun standing d refl standing served.its
                (record { its = served.its; is = refl; begun = served.begun; shown = served.shown; home = served.home; writes = served.writes })
                (get h.pend) (altered_moves g.pend meets.course.id with_in_done (chain_of meets.course) pending) (get h.calls) (no_moves (get g.calls) meets.course.id served.its served.is);
            calls = calls_same parts (λ q. get (machine q).clients) (get g.calls) holds.calls (λ q. get (set_at machine p x q).clients) (clients_stay parts machine next k g holds p x refl);
          };
          progress = no_progress (get g.calls) (get h.calls) (λ i. refl);
          courses = go_set k from v meets.course d meets.begun (record { id = refl; remote = refl; list = refl; wrote = λ w. refl; ended = λ e. refl; shown = λ e. not_aborted meets.course.fate standing });
          rightly = λ i a e. cc;
        }))))
      where
        standing : stands meets.course.fate ≡ true
        standing = stands_else meets.course.fate unsettled alive
          where
            unsettled : is_settled meets.course.fate ≡ false
            unsettled = elim (cases_Bool (is_settled meets.course.fate)) [
              | inl s ↦ (let f : false ≡ true = sym unwritten ∙ holds.chains.settled from v meets.course meets.begun s in cc)
              | inr n ↦ n
            ]

            alive : is_aborted meets.course.fate ≡ false
            alive = elim (cases_Bool (is_aborted meets.course.fate)) [
              | inl a ↦ (let f : false ≡ true = sym e ∙ lt-ltb term (guard_of m from) (meets.late a) in cc)
              | inr n ↦ n
            ]

        low : (i : EdgeId) → has_edge list i ≡ true → number_of m i < v
        low i on = let w = holds.chains.unwritten from v meets.course meets.begun unwritten (not_aborted meets.course.fate standing) i (on_list i on) in let n = number i on in omega arith

        some : list ≡ [] → ⊥
        some none = holds.chains.some from v meets.course meets.begun (meets.whole ∙ none)

        d : Course
        d = record meets.course { wrote = true }

        pending : get g.pend meets.course.id ≡ Some (chain_of meets.course)
        pending = holds.pends.pending from v meets.course meets.begun standing

        served : IsServed parts from meets.course (get g.calls meets.course.id)
        served = holds.pends.served from v meets.course meets.begun standing

        h : GraphState
        h = after_in g meets.course.id meets.course.list

        kept_wrote : AreKept (set_at machine p x) (with_course k from v (Some d))
        kept_wrote q w = kept_stay parts machine next k g holds p x refl q w ∙ elim (place_split from v q w) [
          | inl here ↦
              ap (λ j. prime_of w (k j w)) here.0 ∙ ap (λ j. prime_of j (k from j)) here.1 ∙ ap (prime_of v) meets.begun
              ∙ sym (ap (λ j. prime_of w (with_course k from v (Some d) j w)) here.0 ∙ ap (λ j. prime_of j (with_course k from v (Some d) from j)) here.1 ∙ ap (prime_of v) (course_here k from v (Some d)))
          | inr apart ↦ ap (prime_of w) (sym (course_apart k from v (Some d) q w apart))
        ]

    -- a Remote
    pub remote_reaches : Q (remoted m from term v list)
    remote_reaches = remote_cases m Q from term v list stale (λ e. elim (cases_Bool meets.course.wrote) [ inl wrote ↦ again e wrote | inr unwritten ↦ first e unwritten ])

  -- a Fence
  module _ (edges : List EdgeId) where
    abbrev QF : Part × Applied → Type 0
    QF r = Reaches parts (set_at machine p r.0) later k (coursed k p at_term r.0 (Fence from term v edges) r.1) g (steps_of_entry caller m (Fence from term v edges) r.1) (answer_of (Fence from term v edges) r.1)

    pub fence_reaches : QF (fenced m from term v edges)
    fence_reaches = fence_cases m QF from term v edges (λ e. still parts machine next k g holds p m refl refl refl refl refl later rises None (λ i a e. cc)) (λ e. still parts machine next k g holds p (raising m from term) refl refl refl refl refl later rises None (λ i a e. cc))
