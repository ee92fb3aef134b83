-- What the parts have of an edge is what the last chain on it gave: behind each entry that is decided.
use Rattle.std.proofs.Common.{◌≡◌, inl, inr, ℕ, List, Option, None, Some, Bool, true, false, refl, ap, sym, ◌∙◌, subst, arith}
use Rattle.std.specs.FinMap.{get}
use Rattle.std.specs.Map.{keys_of}
use Rattle.std.proofs.lemmas.Bool.{cases_Bool, lt-ltb, false_from_ne_true}
use Rattle.graph_model.specs.declared.call_id.CallId.{CallId}
use Rattle.graph_model.specs.declared.edge_id.EdgeId.{EdgeId}
use Rattle.graph_model.specs.declared.half.Half.{Half}
use Rattle.graph_model.specs.declared.graph_step.GStep.{GStep}
use Rattle.graph_model.specs.State.{GraphState}
use Rattle.maps.proofs.Keys.{nat_keys}
use Rattle.maps.proofs.Updates.{insert_here}
use Rattle.part_keys.specs.Routing.{part_of, remote_of}
use Rattle.part_keys.specs.declared.chain.PrimeRec.{PrimeRec}
use Rattle.part_keys.specs.declared.entry.PartEntry.{PartEntry}
use Rattle.part_keys.specs.declared.entry.PartEntry.TheVariants.{Prime, Local, Double, Close, Abort, Remote, Fence, Vertex, Read}
use Rattle.part_rules.specs.declared.applied.Applied.{Applied}
use Rattle.part_rules.specs.declared.applied.Applied.TheVariants as told
use Rattle.part_rules.specs.Part.{Part, chain_on_any, is_stale, guard_of, number_of}
use Rattle.part_rules.specs.Machine as table
use Rattle.part_rules.proofs.FoldsCases.{prime_cases, local_cases, double_cases, abort_cases, close_cases, remote_cases, fence_cases}
use Rattle.part_rules.proofs.FoldsChains.{none_any}
use Rattle.part_rules.proofs.FoldsOn.{on_none}
use Rattle.part_rules.proofs.FoldsRise.{vertex_keeps}
use Rattle.part_rules.proofs.FoldsTaken.{taken_on}
use Rattle.chain_world.specs.Course.{Fate, Primed, Doubled, Settled, Closed, Aborted, Course, Courses, stands, is_doubled, is_settled, is_aborted, has_edge, with_course, with_fate, with_wrote, course_of, coursed}
use Rattle.chain_world.specs.Invariant.ChainFacts.{AreRouted}
use Rattle.chain_world.specs.Invariant.Discipline.{IsRemoteOf, MeetsEntry}
use Rattle.chain_world.specs.Edges.{is_shown, gives_in, gives_out, given, AreLast}
use Rattle.chain_world.specs.Invariant.Sound.{Holds, kept_of}
use Rattle.chain_world.proofs.Courses.{not_aborted, stands_else}
use Rattle.chain_world.proofs.EdgesGiven.{last_stays, last_begins, last_ends}
use Rattle.chain_world.proofs.EdgesWrite.{last_writes, last_shows}
use Rattle.chain_world.proofs.EdgesIn.{left}
use Rattle.chain_world.proofs.EdgesPending.{prime, standing_in}
use Rattle.chain_world.proofs.EdgesSet.{set_at}
use Rattle.chain_world.proofs.Ending.{IsCourse, course_found}
use Rattle.chain_world.proofs.Pends.{place_split, course_here, course_apart}

-- a course that is set to what it is changes nothing
set_to_itself : (k : Courses) (p v : ℕ) (o : Option Course) → o ≡ k p v → (q w : ℕ) → with_course k p v o q w ≡ k q w
set_to_itself k p v o same q w = elim (place_split p v q w) [
  | inl here ↦ ap (λ j. with_course k p v o j w) here.0 ∙ ap (with_course k p v o p) here.1 ∙ course_here k p v o ∙ same ∙ ap (k p) (sym here.1) ∙ ap (λ j. k j w) (sym here.0)
  | inr apart ↦ course_apart k p v o q w apart
]

-- a fate that is shown, of a chain that a machine keeps as double or not
shown_of : (fate : Fate) → stands fate ≡ true → is_shown fate ≡ is_doubled fate
shown_of Primed s = refl
shown_of Doubled s = refl
shown_of Settled s = cc
shown_of Closed s = cc
shown_of (Aborted t) s = cc

module _ (parts : ℕ) (machine : ℕ → Part) (next : ℕ → ℕ) (k : Courses) (g : GraphState) (holds : Holds parts machine next k g) (are : AreLast parts machine k) (p term : ℕ) where
  abbrev m : Part
  m = machine p

  -- what an entry leaves, and its answer
  abbrev Q : PartEntry → Part × Applied → Type 0
  Q entry r = AreLast parts (set_at machine p r.0) (coursed k p term r.0 entry r.1)

  -- the halves stay, and the chains do
  pub unmoved : (x : Part) → x.inn ≡ m.inn → x.out ≡ m.out → AreLast parts (set_at machine p x) k
  unmoved x i o = last_stays parts machine k are p x k are.latest (λ e q w. refl) (λ e q w. refl) i o

  -- Prime
  module _ (id : CallId) (list : List (EdgeId × Half)) (absent : Bool) where
    begun : chain_on_any m (keys_of list) ≡ None → Q (Prime id list absent) (table.beginning parts m (next p) id list absent, told.Begun (next p))
    begun none =
        subst (λ o. AreLast parts (set_at machine p x) (with_course k p (next p) (course_of o))) (sym (insert_here nat_keys m.chains (next p) (table.begun_at parts m (next p) id list absent)))
        (last_begins parts machine k are p x (next p) c refl refl (holds.chains.fresh p) free refl refl)
      where
        x : Part
        x = table.beginning parts m (next p) id list absent

        c : Course
        c = record { id = id; remote = remote_of parts (table.taken_of m list absent); list = table.taken_of m list absent; fate = Primed; wrote = false }

        free : (w : ℕ) (d : Course) → k p w ≡ Some d → stands d.fate ≡ true → (e : EdgeId) → has_edge (table.taken_of m list absent) e ≡ true → has_edge d.list e ≡ true → ⊥
        free w d is standing e on up =
            let off = on_none m e (none_any m (keys_of list) none e (taken_on m list absent e on)) w (prime w d) (standing_in parts machine next k g holds p w d is standing) in
            let t : true ≡ false = sym up ∙ off in
            cc

    pub prime_last : Q (Prime id list absent) (table.primed parts m (next p) id list absent)
    prime_last = prime_cases m (Q (Prime id list absent)) parts (next p) id list absent (unmoved m refl refl) (λ o. unmoved m refl refl) (λ c on. unmoved (table.keeping m id _) refl refl) (λ none all. unmoved (table.keeping m id _) refl refl) (λ none some. begun none)

  -- Local, Double, Close, Abort of a chain that the part keeps
  module _ (v : ℕ) (chain : PrimeRec) (found : get m.chains v ≡ Some chain) where
    course : IsCourse (k p v) v chain
    course = course_found v (k p v) chain (sym (holds.kept p v) ∙ found)

    abbrev c : Course
    c = course.its

    same_list : chain.list ≡ c.list
    same_list = ap (λ (r : PrimeRec). r.list) course.same

    same_double : chain.double ≡ is_doubled c.fate
    same_double = ap (λ (r : PrimeRec). r.double) course.same

    fated : (x : Part) (fate : Fate) → AreLast parts (set_at machine p x) (with_course k p v (Some (record c { fate = fate }))) → AreLast parts (set_at machine p x) (with_course k p v (with_fate fate (k p v)))
    fated x fate = subst (λ o. AreLast parts (set_at machine p x) (with_course k p v o)) (sym (ap (with_fate fate) course.is))

    shows : (x : Part) (fate : Fate) → is_shown fate ≡ true → x.inn ≡ m.inn → x.out ≡ table.out_written m.out chain.list → AreLast parts (set_at machine p x) (with_course k p v (with_fate fate (k p v)))
    shows x fate shown i o = fated x fate (last_shows parts machine k are p x p v c course.is course.stands refl c.remote (holds.chains.routed p v c course.is) fate shown i (o ∙ ap (table.out_written m.out) same_list))

    ends : (x : Part) (fate : Fate) → is_shown fate ≡ chain.double → stands fate ≡ false → x.inn ≡ m.inn → x.out ≡ m.out → AreLast parts (set_at machine p x) (with_course k p v (with_fate fate (k p v)))
    ends x fate shown over i o = fated x fate (last_ends parts machine k are p x p v c course.is fate (shown ∙ same_double ∙ sym (shown_of c.fate course.stands)) (λ s. course.stands) i o)

  local_last : (v : ℕ) → Q (Local v) (table.localized m v)
  local_last v = local_cases m (Q (Local v)) v (unmoved m refl refl) (λ chain there single. shows v chain there (table.settling m v chain) Settled refl refl refl)

  double_last : (v : ℕ) → Q (Double v) (table.doubled m v)
  double_last v = double_cases m (Q (Double v)) v (unmoved m refl refl) (λ chain there single. shows v chain there (table.doubling m v chain) Doubled refl refl refl)

  close_last : (v : ℕ) → Q (Close v) (table.closed m v)
  close_last v = close_cases m (Q (Close v)) v (unmoved m refl refl) (λ chain there double. ends v chain there (table.closing m v chain) Closed (sym double) refl refl refl)

  abort_last : (v : ℕ) → Q (Abort v) (table.aborted m v)
  abort_last v = abort_cases m (Q (Abort v)) v (unmoved m refl refl) (λ chain there single. ends v chain there (table.aborting m v chain) (Aborted term) (sym single) refl refl refl)

  -- Remote
  module _ (from t v : ℕ) (list : List (EdgeId × Half)) (meets : IsRemoteOf k m p from t v list) where
    abbrev x : Part
    x = record (table.raising m from t) { inn = table.in_written m v list }

    home : (e : EdgeId) → has_edge meets.course.list e ≡ true → part_of parts e.dst ≡ p
    home e on = (holds.chains.routed from v meets.course meets.begun e on).1 ∙ meets.remote

    number : (e : EdgeId) → has_edge meets.course.list e ≡ true → kept_of parts machine e ≡ number_of m e
    number e on = ap (λ q. number_of (machine q) e) (home e on)

    again : meets.course.wrote ≡ true → Q (Remote from t v list) (x, told.Done)
    again wrote = last_stays parts machine k are p x (with_course k from v (with_wrote (k from v)))
        (λ q u w a b at s to e on up. are.latest q u w a b (sym (still q u) ∙ at) s (sym (still q w) ∙ to) e on up)
        (λ e q w. ap (given gives_in e) (still q w)) (λ e q w. ap (given gives_out e) (still q w))
        (left parts machine p x v list (λ e on.
        let on' = ap (λ l. has_edge l e) meets.whole ∙ on in
        let w = holds.chains.written from v meets.course meets.begun wrote e on' in
        let n = number e on' in
        omega arith) refl)
        refl
      where
        still : (q w : ℕ) → with_course k from v (with_wrote (k from v)) q w ≡ k q w
        still = set_to_itself k from v (with_wrote (k from v)) (ap with_wrote meets.begun ∙ ap (λ b. Some (record meets.course { wrote = b })) (sym wrote) ∙ sym meets.begun)

    first : is_stale m from t ≡ false → meets.course.wrote ≡ false → Q (Remote from t v list) (x, told.Done)
    first fresh unwritten =
        subst (λ o. AreLast parts (set_at machine p x) (with_course k from v o)) (sym (ap with_wrote meets.begun))
        (last_writes parts machine k are p x from v meets.course meets.begun standing
        (subst (λ q. AreRouted (part_of parts) from q meets.course.list) meets.remote (holds.chains.routed from v meets.course meets.begun))
        (λ e on. let w = holds.chains.unwritten from v meets.course meets.begun unwritten (not_aborted meets.course.fate standing) e on in let n = number e on in omega arith)
        (ap (table.in_written m v) (sym meets.whole)) refl)
      where
        standing : stands meets.course.fate ≡ true
        standing = stands_else meets.course.fate
            (false_from_ne_true (is_settled meets.course.fate) (λ s. let f : false ≡ true = sym unwritten ∙ holds.chains.settled from v meets.course meets.begun s in cc))
            (false_from_ne_true (is_aborted meets.course.fate) (λ a. let f : false ≡ true = sym fresh ∙ lt-ltb t (guard_of m from) (meets.late a) in cc))

    remote_last : Q (Remote from t v list) (table.remoted m from t v list)
    remote_last = remote_cases m (Q (Remote from t v list)) from t v list (λ stale. unmoved m refl refl) (λ fresh. elim (cases_Bool meets.course.wrote) [ inl wrote ↦ again wrote | inr unwritten ↦ first fresh unwritten ])

  -- an entry that the part may decide
  pub entry_last : (steps : List GStep) (entry : PartEntry) → MeetsEntry parts steps k m p entry → Q entry (table.applied parts (next p) entry m)
  entry_last steps (Prime id list absent) meets = prime_last id list absent
  entry_last steps (Local v) meets = local_last v
  entry_last steps (Double v) meets = double_last v
  entry_last steps (Close v) meets = close_last v
  entry_last steps (Abort v) meets = abort_last v
  entry_last steps (Remote from t v list) meets = remote_last from t v list meets
  entry_last steps (Fence from t v edges) meets = fence_cases m (Q (Fence from t v edges)) from t v edges (λ stale. unmoved m refl refl) (λ fresh. unmoved (table.raising m from t) refl refl)
  entry_last steps (Vertex id op) meets = let keeps = vertex_keeps m id op in unmoved (table.where_new m id (table.vertex_written m id op)).0 keeps.0 keeps.1
  entry_last steps (Read id query) meets = unmoved m refl refl
