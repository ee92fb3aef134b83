-- Lists of edges, as calls and entries have them: 1 to 64 edges, none twice, each of a positive type.
use Rattle.std.specs.Prelude.{ℕ, nat_le, pos, int_lt, Bool, true, not, ◌&&◌, List, [], ◌∷◌, map, length}
use Rattle.std.specs.List.{list_all}
use Rattle.graph_model.specs.declared.edge_id.EdgeId.{EdgeId}
use Rattle.graph_model.specs.declared.half.Half.{Half}
use Rattle.graph_model.specs.declared.val.Val.{Val}
use Rattle.graph_model.specs.Keys.{edge_cmp}
use Rattle.maps.specs.Keys.{has_key}

-- the greatest number of edges in a list
abbrev pub most_edges : ℕ
most_edges = 64

-- the edges of a list of halves
abbrev pub edges_in : List (EdgeId × Half) → List EdgeId
edges_in list = map (λ x. x.0) list

-- the edges of a list of rows
abbrev pub edges_among : List (EdgeId × List Val) → List EdgeId
edges_among rows = map (λ x. x.0) rows

-- whether no edge stands twice in the list
abbrev pub is_once_each : List EdgeId → Bool
is_once_each [] = true
is_once_each (e ∷ es) = not (has_key edge_cmp e es) && is_once_each es

-- whether the type of an edge is positive
abbrev pub is_positive : EdgeId → Bool
is_positive e = int_lt (pos 0) e.etype

-- whether these are 1 to 64 edges, none twice, each of a positive type
abbrev pub are_edges : List EdgeId → Bool
are_edges es = nat_le 1 (length es) && (nat_le (length es) most_edges && (is_once_each es && list_all is_positive es))
