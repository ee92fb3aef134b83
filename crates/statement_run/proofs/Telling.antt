-- A statement behind one more answer.
use Rattle.std.proofs.Common.{◌≡◌, ℕ, List, [], ◌∷◌, ◌++◌, length, drop, nat_eq, nat_lt, Option, Some, None, Bool, true, false, cond, ◌||◌, refl, ap, sym, subst, ◌∙◌}
use Rattle.std.proofs.lemmas.Bool.{cond-false}
use Rattle.std.specs.Option.{option_map}
use Rattle.std.specs.Prelude.{Result, Ok, Err, OnOk, IfOk}
use Rattle.std.proofs.lemmas.Option.{none-some, same_Some}
use Rattle.std.specs.List.{list_any, filter_map}
use Rattle.graph_model.specs.declared.answer.Answer.{Answer}
use Rattle.graph_model.specs.declared.answer.Answer.TheVariants.{Shown}
use Rattle.graph_model.specs.declared.call_id.CallId.{CallId}
use Rattle.graph_model.specs.declared.found.Found.{Found}
use Rattle.graph_model.specs.declared.op.Op.{Op}
use Rattle.graph_model.specs.declared.op.Op.TheVariants.{Read}
use Rattle.schema_book.specs.declared.bound.Bound.{Bound}
use Rattle.schema_book.specs.declared.bound.Bound.TheVariants.{Calls, Fetch, Go}
use Rattle.schema_book.specs.declared.bound.FetchPlan.{FetchPlan}
use Rattle.schema_book.specs.declared.bound.GoPlan.{GoPlan}
use Rattle.traversal.specs.declared.walk.Walk.{Walk}
use Rattle.traversal.specs.Trail as trail
use Rattle.traversal.specs.Sets.{with_all, ends_in, most_ends}
use Rattle.statement_run.specs.Statement.{Statement, Running, is_last, call_next}
use Rattle.statement_run.specs.At.{IsAt}
use Rattle.statement_run.specs.Bound.{view_of, fed_all, walk_behind, call_behind}
use Rattle.statement_run.specs.Call.{IsReady}
use Rattle.statement_run.specs.Task.{Tells, behind}
use Rattle.statement_run.specs.declared.call.Begun.{Begun}
use Rattle.statement_run.specs.declared.task.Task.{Task}

-- a statement that makes another call was ended by no answer
pub not_ended : (r : Running) (op : Op) → call_next r ≡ Some op → list_any is_last r.answers ≡ false
not_ended r op some = go (list_any is_last r.answers) some
  where
    go : (b : Bool) → cond b None (r.statement.calls r.answers) ≡ Some op → b ≡ false
    go true is = absurd (none-some op is)
    go false is = refl

or_false : (b : Bool) → (b || false) ≡ b
or_false true = refl
or_false false = refl

-- it is ended exactly where this answer ends it, if none before did
pub ends_behind : (answers : List Answer) (answer : Answer) → list_any is_last answers ≡ false → list_any is_last (answers ++ answer ∷ []) ≡ is_last answer
ends_behind [] answer none = or_false (is_last answer)
ends_behind (x ∷ answers) answer none = go (is_last x) none (ends_behind answers answer)
  where
    go : (b : Bool) → (b || list_any is_last answers) ≡ false → (list_any is_last answers ≡ false → list_any is_last (answers ++ answer ∷ []) ≡ is_last answer)
        → (b || list_any is_last (answers ++ answer ∷ [])) ≡ is_last answer
    go true none later = absurd (let d : true ≡ false = none in cc)
    go false none later = later none

fed_more : (w : Walk) (views : List (List Found)) (view : List Found) → fed_all w (views ++ view ∷ []) ≡ trail.fed (fed_all w views) view
fed_more w [] view = refl
fed_more w (v ∷ views) view = fed_more (trail.fed w v) views view

views_more : (answers : List Answer) (view : List Found) → filter_map view_of (answers ++ Shown view ∷ []) ≡ filter_map view_of answers ++ view ∷ []
views_more [] view = refl
views_more (Shown v ∷ answers) view = ap (λ vs. v ∷ vs) (views_more answers view)
views_more (x ∷ answers) view = views_more answers view

-- its views are one more
pub fetched_more : (bound : Bound) (plan : FetchPlan) (views more : List (List Found)) (walk : Option Walk) (answers : List Answer) (answer : Answer) (view : List Found)
    → bound ≡ Fetch plan → answer ≡ Shown view → more ≡ views ++ view ∷ [] → IsAt bound views walk answers → IsAt bound more walk (answers ++ answer ∷ [])
fetched_more bound plan views more walk answers answer view is said pushed at =
    subst (λ b. IsAt b more walk (answers ++ answer ∷ [])) (sym is)
    (pushed ∙ ap (λ vs. vs ++ view ∷ []) (subst (λ b. IsAt b views walk answers) is at)
    ∙ sym (ap (λ a. filter_map view_of (answers ++ a ∷ [])) said ∙ views_more answers view))

-- its walk is fed what was found
pub walk_more : (plan : GoPlan) (answers : List Answer) (view : List Found) → walk_behind plan (answers ++ Shown view ∷ []) ≡ trail.fed (walk_behind plan answers) view
walk_more plan answers view =
    ap (fed_all (trail.starting plan.steps plan.start plan.types plan.way)) (views_more answers view)
    ∙ fed_more (trail.starting plan.steps plan.start plan.types plan.way) (filter_map view_of answers) view

-- behind an answer that ends it, its views and its walk stand where they stood
views_same : (answers : List Answer) (answer : Answer) → view_of answer ≡ None → filter_map view_of (answers ++ answer ∷ []) ≡ filter_map view_of answers
views_same [] answer none = rw (none) refl
views_same (Shown v ∷ answers) answer none = ap (λ vs. v ∷ vs) (views_same answers answer none)
views_same (x ∷ answers) answer none = views_same answers answer none

no_view : (answer : Answer) → is_last answer ≡ true → view_of answer ≡ None
no_view (Shown view) is = absurd (let d : false ≡ true = is in cc)
no_view other is = refl

pub at_its_end : (bound : Bound) (views : List (List Found)) (walk : Option Walk) (answers : List Answer) (answer : Answer) → is_last answer ≡ true
    → IsAt bound views walk answers → IsAt bound views walk (answers ++ answer ∷ [])
at_its_end (Calls ops) views walk answers answer is at = tt
at_its_end (Fetch plan) views walk answers answer is at = at ∙ sym (views_same answers answer (no_view answer is))
at_its_end (Go plan) views walk answers answer is at =
    at ∙ sym (ap (λ vs. Some (fed_all (trail.starting plan.steps plan.start plan.types plan.way) vs)) (views_same answers answer (no_view answer is)))

-- a walk keeps its way and its types
abbrev Same : Walk → Walk → Type 0
Same w x = (x.way ≡ w.way) × (x.types ≡ w.types)

gone_same : (w x : Walk) → Same w x → Same w (trail.gone_on x)
gone_same w x same = go (nat_eq (length x.rest) 0)
  where
    go : (b : Bool) → Same w (cond b (trail.next_step x) x)
    go true = same
    go false = same

widened_same : (w x : Walk) → Same w x → Same w (trail.widened x)
widened_same w x same = go (nat_lt most_ends (length x.ends)) (gone_same w x same)
  where
    go : (b : Bool) → Same w (trail.gone_on x) → Same w (cond b (record x { wide = true }) (trail.gone_on x))
    go true gone = same
    go false gone = gone

fed_same : (w : Walk) (view : List Found) → Same w (trail.fed w view)
fed_same w view = go (nat_eq w.left 1) (widened_same w (record w { rest = drop 1 w.rest; ends = with_all w.ends (ends_in view) }) (refl, refl))
  where
    go : (b : Bool) → Same w (trail.passed w view) → Same w (cond b (trail.kept w view) (trail.passed w view))
    go true passed = (refl, refl)
    go false passed = passed

all_same : (w : Walk) (views : List (List Found)) → Same w (fed_all w views)
all_same w [] = (refl, refl)
all_same w (view ∷ views) = let later = all_same (trail.fed w view) views in let here = fed_same w view in (later.0 ∙ here.0, later.1 ∙ here.1)

-- a statement that walks
module _ (t : Task) (r : Running) (tells : Tells t r) (plan : GoPlan) (walk : Walk) (bound : t.bound ≡ Go plan) (its : t.walk ≡ Some walk) where
  pub walk_at : walk ≡ walk_behind plan r.answers
  walk_at = same_Some walk (walk_behind plan r.answers) (sym its ∙ subst (λ b. IsAt b t.views t.walk r.answers) bound tells.at)

  pub way_kept : walk.way ≡ plan.way
  way_kept = ap (λ (w : Walk). w.way) walk_at ∙ (all_same (trail.starting plan.steps plan.start plan.types plan.way) (filter_map view_of r.answers)).0

  pub types_kept : walk.types ≡ plan.types
  types_kept = ap (λ (w : Walk). w.types) walk_at ∙ (all_same (trail.starting plan.steps plan.start plan.types plan.way) (filter_map view_of r.answers)).1

  -- its next read behind what a read found
  pub walks_on : (view : List Found) → t.stopped ≡ false → call_next (behind r (Shown view)) ≡ option_map Read (trail.need_of (trail.fed walk view))
  walks_on view goes =
      cond-false (list_any is_last (r.answers ++ Shown view ∷ [])) None (r.statement.calls (r.answers ++ Shown view ∷ [])) (ends_behind r.answers (Shown view) (sym tells.stopped ∙ goes))
      ∙ ap (λ (s : Statement). s.calls (r.answers ++ Shown view ∷ [])) tells.statement
      ∙ ap (λ b. call_behind b (r.answers ++ Shown view ∷ [])) bound
      ∙ ap (λ w. option_map Read (trail.need_of w)) (walk_more plan r.answers view ∙ ap (λ w. trail.fed w view) (sym walk_at))

-- what is ready for the need of a walk is ready for the call that it makes
pub ready_by : {E : Type 0} (result : Result (Option Begun) E) (id : CallId) (parts : ℕ) (now then : Walk) (next : Option Op) → OnOk result (now ≡ then)
    → next ≡ option_map Read (trail.need_of then) → IfOk result (IsReady id parts (option_map Read (trail.need_of now))) → IfOk result (IsReady id parts next)
ready_by (Ok begun) id parts now then next same is ready = subst (λ o. IsReady id parts o begun) (ap (λ w. option_map Read (trail.need_of w)) same ∙ sym is) ready
ready_by (Err e) id parts now then next same is ready = ready
