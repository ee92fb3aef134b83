-- What a bound statement is as a statement: which call comes next, by the answers of the calls before it.
use Rattle.std.specs.Prelude.{ℕ, List, [], ◌∷◌, length, Option, None, Some}
use Rattle.std.specs.List.{slice_get, filter_map}
use Rattle.std.specs.Option.{option_map}
use Rattle.graph_model.specs.declared.answer.Answer.{Answer}
use Rattle.graph_model.specs.declared.answer.Answer.TheVariants.{Shown}
use Rattle.graph_model.specs.declared.found.Found.{Found}
use Rattle.graph_model.specs.declared.op.Op.{Op}
use Rattle.graph_model.specs.declared.op.Op.TheVariants.{Read}
use Rattle.schema_book.specs.declared.bound.Bound.{Bound}
use Rattle.schema_book.specs.declared.bound.Bound.TheVariants.{Calls, Fetch, Go}
use Rattle.schema_book.specs.declared.bound.GoPlan.{GoPlan}
use Rattle.traversal.specs.declared.walk.Walk.{Walk}
use Rattle.traversal.specs.Trail as trail
use Rattle.statement_run.specs.Statement.{Statement}

-- what a read found
abbrev pub view_of : Answer → Option (List Found)
view_of (Shown view) = Some view
view_of other = None

-- a walk behind what its reads so far found
abbrev pub fed_all : Walk → List (List Found) → Walk
fed_all w [] = w
fed_all w (view ∷ views) = fed_all (trail.fed w view) views

abbrev pub walk_behind : GoPlan → List Answer → Walk
walk_behind plan answers = fed_all (trail.starting plan.steps plan.start plan.types plan.way) (filter_map view_of answers)

-- its calls, or its reads, one after another; or the reads of its walk, each by what those before it found
abbrev pub call_behind : Bound → List Answer → Option Op
call_behind (Calls ops) answers = slice_get ops (length answers)
call_behind (Fetch plan) answers = option_map Read (slice_get plan.reads (length answers))
call_behind (Go plan) answers = option_map Read (trail.need_of (walk_behind plan answers))

-- the statement that is bound, with its calls routed by so many parts
abbrev pub statement_of : ℕ → Bound → Statement
statement_of parts bound = record { parts = parts; calls = call_behind bound }
