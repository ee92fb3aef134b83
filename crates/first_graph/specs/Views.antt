-- What a query finds in the contents.
use Rattle.std.specs.Prelude.{ℤ, Bool, List, [], ◌∷◌, ◌++◌, Option, None, Some, true, false, ◌&&◌, if◌then◌else◌}
use Rattle.std.specs.Ordering.{int_eq}
use Rattle.std.specs.List.{filter_map, list_any}
use Rattle.std.specs.FinMap.{get, entries}
use Rattle.first_graph.specs.declared.val.Val.{Val}
use Rattle.first_graph.specs.declared.edge_id.EdgeId.{EdgeId}
use Rattle.first_graph.specs.declared.in_key.InKey.{InKey}
use Rattle.first_graph.specs.declared.found.Found.{Found}
use Rattle.first_graph.specs.declared.query.Query.{Query}
use Rattle.first_graph.specs.declared.query.Query.TheVariants.{Tag, Edge, Out, In, Both}
use Rattle.first_graph.specs.Keys.{edge_of}
use Rattle.first_graph.specs.Contents.{Contents}

-- the row at a key, if there is one
abbrev pub row_alone : Option EdgeId → Option (List Val) → List Found
row_alone edge None = []
row_alone edge (Some row) = record { edge = edge; inward = false; row = row } ∷ []

-- whether an edge has this end, and one of the types
abbrev pub is_wanted : ℤ → List ℤ → ℤ → ℤ → Bool
is_wanted v types end etype = int_eq end v && list_any (λ t. int_eq t etype) types

-- an out-half of the vertex, of one of the types
abbrev pub found_out : ℤ → List ℤ → EdgeId × List Val → Option Found
found_out v types e =
    if is_wanted v types e.0.src e.0.etype
    then Some (record { edge = Some e.0; inward = false; row = e.1 })
    else None

-- an in-half of the vertex, of one of the types
abbrev pub found_in : ℤ → List ℤ → InKey × List Val → Option Found
found_in v types e =
    if is_wanted v types e.0.dst e.0.etype
    then Some (record { edge = Some (edge_of e.0); inward = true; row = e.1 })
    else None

-- what a query finds, in the order of the keys
abbrev pub view_of : Query → Contents → List Found
view_of (Tag v t) c = row_alone None (get c.verts (record { vid = v; tag = t }))
view_of (Edge e) c = row_alone (Some e) (get c.out e)
view_of (Out v types) c = filter_map (found_out v types) (entries c.out)
view_of (In v types) c = filter_map (found_in v types) (entries c.inn)
view_of (Both v types) c = filter_map (found_in v types) (entries c.inn) ++ filter_map (found_out v types) (entries c.out)
