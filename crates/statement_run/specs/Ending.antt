-- How a statement ends, by the answers of its calls.
use Rattle.std.specs.Prelude.{ℕ, suc, ◌&&◌, not, nat_eq, Bool, true, false, List, [], ◌∷◌, length, Option, None, Some, if◌then◌else◌}
use Rattle.std.specs.Option.{option_or, option_map, unwrap_or}
use Rattle.std.specs.List.{list_any, list_all, filter_map}
use Rattle.graph_model.specs.declared.answer.Answer.{Answer}
use Rattle.graph_model.specs.declared.answer.Answer.TheVariants as said
use Rattle.schema_book.specs.declared.bound.Bound.{Bound}
use Rattle.schema_book.specs.declared.bound.Bound.TheVariants.{Calls, Fetch, Go}
use Rattle.schema_book.specs.declared.bound.GoPlan.{GoPlan}
use Rattle.traversal.specs.declared.walk.Walk.{Walk}
use Rattle.statement_run.specs.Bound.{view_of, walk_behind}
use Rattle.statement_run.specs.declared.ending.Ending.{Ending}
use Rattle.statement_run.specs.declared.ending.Ending.TheVariants as end
use Rattle.statement_run.specs.declared.ending.Stop.{Stop}
use Rattle.statement_run.specs.declared.ending.Stop.TheVariants as stop

abbrev pub is_pending : Answer → Bool
is_pending said.Pending = true
is_pending other = false

abbrev pub is_skipped : Answer → Bool
is_skipped said.Skipped = true
is_skipped other = false

-- an answer that ends the statement, with its call's place
abbrev pub stop_of : ℕ → Answer → Option Stop
stop_of place (said.Conflict other) = Some (stop.Conflict other place)
stop_of place said.Cancelled = Some (stop.Cancelled place)
stop_of place said.Unknown = Some (stop.Unknown place)
stop_of place other = None

abbrev pub stopped_at : ℕ → List Answer → Option Stop
stopped_at place [] = None
stopped_at place (answer ∷ answers) = option_or (stop_of place answer) (stopped_at (suc place) answers)

-- of calls: Pending where one is, Skipped where there were some and all are; of reads and walks what was found
abbrev pub calls_end : List Answer → Ending
calls_end answers =
    if list_any is_pending answers then end.Pending
    else if not (nat_eq (length answers) 0) && list_all is_skipped answers then end.Skipped
    else end.Fine

abbrev pub walk_ends : GoPlan → Walk → Ending
walk_ends plan w = if w.wide then end.Wide else end.Walked plan w.found

abbrev pub ends_by : Bound → List Answer → Ending
ends_by (Calls ops) answers = calls_end answers
ends_by (Fetch plan) answers = end.Fetched plan (filter_map view_of answers)
ends_by (Go plan) answers = walk_ends plan (walk_behind plan answers)

abbrev pub stopped_end : Stop → Ending
stopped_end (stop.Conflict other place) = end.Conflict other place
stopped_end (stop.Cancelled place) = end.Cancelled place
stopped_end (stop.Unknown place) = end.Unknown place

abbrev pub ending_of : Bound → List Answer → Ending
ending_of bound answers = unwrap_or (option_map stopped_end (stopped_at 1 answers)) (ends_by bound answers)
