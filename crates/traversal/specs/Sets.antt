-- Sets of vertices, and the other ends of edges.
use Rattle.std.specs.Prelude.{ℕ, Bool, List, [], ◌∷◌, filter_map, Option, option_map, if◌then◌else◌}
use Rattle.std.specs.List.{list_any}
use Rattle.std.specs.BTreeMap.{is_at}
use Rattle.std.specs.BTreeSet.{insert_key}
use Rattle.std.specs.Set.{remove_key}
use Rattle.graph_model.specs.Keys.{vid_cmp}
use Rattle.graph_model.specs.declared.edge_id.EdgeId.{EdgeId}
use Rattle.graph_model.specs.declared.found.Found.{Found}
use Rattle.graph_model.specs.declared.vid.Vid.{Vid}

-- a set of vertices is its rising list; these vertices are put into it
abbrev pub with_all : List Vid → List Vid → List Vid
with_all set [] = set
with_all set (v ∷ vs) = with_all (insert_key vid_cmp set v) vs

abbrev pub set_of : List Vid → List Vid
set_of vs = with_all [] vs

-- whether a vertex is in a set, and the set without it
abbrev pub has_vertex : List Vid → Vid → Bool
has_vertex set v = list_any (is_at (vid_cmp v)) set

abbrev pub without : List Vid → Vid → List Vid
without set v = remove_key (is_at (vid_cmp v)) set

unfoldable pub without_all : List Vid → List Vid → List Vid
without_all [] set = set
without_all (v ∷ vs) set = without (without_all vs set) v

-- the other end of an edge that was found from a vertex: its source where it comes in
abbrev pub far_end : Bool → EdgeId → Vid
far_end inward e = if inward then e.src else e.dst

abbrev pub other_end : Found → Option Vid
other_end found = option_map (far_end found.inward) found.edge

abbrev pub ends_in : List Found → List Vid
ends_in view = filter_map other_end view

-- the most vertices that a frontier behind the first may have
abbrev pub most_ends : ℕ
most_ends = 4096
