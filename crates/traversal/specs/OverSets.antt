-- A walk over sets, whatever each step's reads find.
use Rattle.std.specs.Prelude.{◌≡◌, ℕ, zero, suc, true, false, List, [], ◌∷◌, ◌++◌, length, map, nat_lt, Option, None, Some, if◌then◌else◌}
use Rattle.graph_model.specs.declared.found.Found.{Found}
use Rattle.graph_model.specs.declared.vid.Vid.{Vid}
use Rattle.traversal.specs.declared.walk.Walk.{Walk}
use Rattle.traversal.specs.Sets.{set_of, ends_in, most_ends}
use Rattle.traversal.specs.Trail.{next_of, fed}

-- what is found at a vertex, with so many steps left
abbrev pub Finds : Type 0
Finds = ℕ → Vid → List Found

-- the other ends of all that is found at these vertices
abbrev pub ends_from : (Vid → List Found) → List Vid → List Vid
ends_from views [] = []
ends_from views (v ∷ vs) = ends_in (views v) ++ ends_from views vs

-- the next frontier is the set of them
abbrev pub next_frontier : (Vid → List Found) → List Vid → List Vid
next_frontier views frontier = set_of (ends_from views frontier)

-- a walk goes on, or has ended where the frontier has too many vertices
abbrev pub unless_wide : List Vid → Option (List (List Found)) → Option (List (List Found))
unless_wide frontier gives = if nat_lt most_ends (length frontier) then None else gives

-- what a walk gives that has so many steps left and a frontier: what the last step finds at each vertex of the last frontier, in their order
abbrev pub over_sets : Finds → ℕ → List Vid → Option (List (List Found))
over_sets finds zero frontier = Some []
over_sets finds (suc zero) frontier = Some (map (finds 1) frontier)
over_sets finds (suc (suc left)) frontier =
    unless_wide (next_frontier (finds (suc (suc left))) frontier) (over_sets finds (suc left) (next_frontier (finds (suc (suc left))) frontier))

-- these vertices are read, one after another, and then the walk has ended
abbrev pub Reads : Finds → Walk → List Vid → Walk → Type 0
Reads finds w [] end = (next_of w ≡ None) × (end ≡ w)
Reads finds w (v ∷ vs) end = (next_of w ≡ Some v) × Reads finds (fed w (finds w.left v)) vs end

-- what a walk that has ended gives; none where it is too wide
abbrev pub Gives : Walk → Option (List (List Found)) → Type 0
Gives end None = end.wide ≡ true
Gives end (Some views) = (end.wide ≡ false) × (end.found ≡ views)
