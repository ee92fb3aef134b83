-- A walk, a read at a time.
use Rattle.std.specs.Prelude.{◌≡◌, ℕ, ◌-◌, ℤ, true, false, List, [], ◌∷◌, ◌++◌, length, drop, nat_lt, nat_eq, Option, None, option_map, if◌then◌else◌}
use Rattle.std.specs.List.{slice_get}
use Rattle.graph_model.specs.declared.found.Found.{Found}
use Rattle.graph_model.specs.declared.query.Query.{Query}
use Rattle.graph_model.specs.declared.query.Query.TheVariants.{Out, In, Both}
use Rattle.graph_model.specs.declared.vid.Vid.{Vid}
use Rattle.ngql_syntax.specs.declared.go.Way.{Way}
use Rattle.ngql_syntax.specs.declared.go.Way.TheVariants as way
use Rattle.traversal.specs.declared.refused.WalkRefused.{WalkRefused}
use Rattle.traversal.specs.declared.refused.WalkRefused.TheVariants.{TooWide, NoMemory}
use Rattle.traversal.specs.declared.walk.Walk.{Walk}
use Rattle.traversal.specs.Sets.{with_all, set_of, ends_in, most_ends}

-- a walk of no step has no frontier
abbrev pub frontier_of : ℕ → List Vid → List Vid
frontier_of steps start = if nat_eq steps 0 then [] else set_of start

abbrev pub starting : ℕ → List Vid → List ℤ → Way → Walk
starting steps start types way = record {
  way = way;
  types = types;
  left = steps;
  rest = frontier_of steps start;
  ends = [];
  found = [];
  wide = false;
}

-- the read of a vertex
abbrev pub read_of : Way → List ℤ → Vid → Query
read_of way.Outward types v = Out v types
read_of way.Inward types v = In v types
read_of way.Both types v = Both v types

-- the vertex that is read next
abbrev pub next_of : Walk → Option Vid
next_of w = if w.wide then None else slice_get w.rest 0

abbrev pub need_of : Walk → Option Query
need_of w = option_map (read_of w.way w.types) (next_of w)

-- The view of the vertex that was to be read. The last step keeps it; each other step keeps the other ends, which are the
-- next frontier behind the step's last read, unless they are too many.
abbrev pub kept : Walk → List Found → Walk
kept w view = record w { rest = drop 1 w.rest; found = w.found ++ view ∷ [] }

abbrev pub next_step : Walk → Walk
next_step w = record w { left = w.left - 1; rest = w.ends; ends = [] }

abbrev pub gone_on : Walk → Walk
gone_on w = if nat_eq (length w.rest) 0 then next_step w else w

abbrev pub widened : Walk → Walk
widened w = if nat_lt most_ends (length w.ends) then record w { wide = true } else gone_on w

abbrev pub passed : Walk → List Found → Walk
passed w view = widened (record w { rest = drop 1 w.rest; ends = with_all w.ends (ends_in view) })

abbrev pub fed : Walk → List Found → Walk
fed w view = if nat_eq w.left 1 then kept w view else passed w view

-- why a view is refused, and what then stands
abbrev pub IsRefused : Walk → List Found → Walk → WalkRefused → Type 0
IsRefused old view new TooWide = (new ≡ fed old view) × (new.wide ≡ true)
IsRefused old view new NoMemory = new ≡ old
