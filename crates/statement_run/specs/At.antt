-- How far a bound statement is.
use Rattle.std.specs.Prelude.{◌≡◌, List, Option, Some}
use Rattle.std.specs.List.{filter_map}
use Rattle.graph_model.specs.declared.answer.Answer.{Answer}
use Rattle.graph_model.specs.declared.found.Found.{Found}
use Rattle.schema_book.specs.declared.bound.Bound.{Bound}
use Rattle.schema_book.specs.declared.bound.Bound.TheVariants.{Calls, Fetch, Go}
use Rattle.traversal.specs.declared.walk.Walk.{Walk}
use Rattle.statement_run.specs.Bound.{view_of, walk_behind}

-- how far it is: its reads found these views, or its walk stands behind what its reads found
abbrev pub IsAt : Bound → List (List Found) → Option Walk → List Answer → Type 0
IsAt (Calls ops) views walk answers = Unit {0}
IsAt (Fetch plan) views walk answers = views ≡ filter_map view_of answers
IsAt (Go plan) views walk answers = walk ≡ Some (walk_behind plan answers)
