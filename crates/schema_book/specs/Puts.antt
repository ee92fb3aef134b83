-- What INSERT binds to.
use Rattle.std.specs.Prelude.{ℕ, ◌+◌, Bool, List, [], ◌∷◌, ◌++◌, map, slice_get, slice_set, Option, None, Some, if◌then◌else◌}
use Rattle.std.specs.List.{fold, position_from}
use Rattle.std.specs.Option.{option_map}
use Rattle.std.specs.Ordering.{eq_by_cmp}
use Rattle.graph_model.specs.declared.edge_id.EdgeId.{EdgeId}
use Rattle.graph_model.specs.declared.op.Op.{Op}
use Rattle.graph_model.specs.declared.op.Op.TheVariants as op
use Rattle.graph_model.specs.declared.val.Val.{Val}
use Rattle.graph_model.specs.Edges.{most_edges}
use Rattle.graph_model.specs.Keys.{edge_cmp}
use Rattle.part_keys.specs.declared.vid_kind.VidKind.{VidKind}
use Rattle.ngql_syntax.specs.declared.define.Column.{Column}
use Rattle.maps.specs.Keys.{has_key}
use Rattle.ngql_syntax.specs.declared.put.Ends.{Ends}
use Rattle.ngql_syntax.specs.declared.put.EdgeRow.{EdgeRow}
use Rattle.ngql_syntax.specs.declared.put.VertexRow.{VertexRow}
use Rattle.ngql_syntax.specs.declared.put.PutEdges.{PutEdges}
use Rattle.ngql_syntax.specs.declared.put.PutVertices.{PutVertices}
use Rattle.ngql_syntax.specs.declared.spanned.Spanned.{Spanned}
use Rattle.schema_book.specs.declared.refused.BookRefused.{BookRefused}
use Rattle.schema_book.specs.declared.refused.BookRefused.TheVariants.{TooMany}
use Rattle.schema_book.specs.Ids.{vid_of, edge_of, wrong_vid, wrong_ends, long_vid, long_ends}
use Rattle.schema_book.specs.Refusals.{first_of, first_among}
use Rattle.schema_book.specs.Rows.{no_such_column, name_twice, wrong_count, wrong_value, not_set, row_of}

-- the first values that aren't as many as the listed names
unfoldable pub vertex_counts : List Spanned → List VertexRow → Option BookRefused
vertex_counts names rows = first_among (λ r. wrong_count names r.values) rows

-- the first id of the other kind, or value that doesn't fit; in each row the id comes first
unfoldable pub vertex_values : VidKind → List Column → List Spanned → List VertexRow → Option BookRefused
vertex_values ids columns names rows = first_among (λ r. first_of (wrong_vid ids r.id ∷ wrong_value columns names r.values.list ∷ [])) rows

-- the first id that is too long
unfoldable pub vertex_longs : VidKind → List VertexRow → Option BookRefused
vertex_longs ids rows = first_among (λ r. long_vid ids r.id) rows

-- what refuses INSERT VERTEX, in this order
abbrev pub vertices_refused : VidKind → List Column → PutVertices → Option BookRefused
vertices_refused ids columns words = first_of (
    no_such_column columns words.columns
    ∷ name_twice [] words.columns
    ∷ vertex_counts words.columns words.rows
    ∷ vertex_values ids columns words.columns words.rows
    ∷ vertex_longs ids words.rows
    ∷ not_set columns words.columns
    ∷ [])

-- a call for each vertex, in their order
unfoldable pub vertex_calls : ℕ → List Column → PutVertices → List Op
vertex_calls place columns words =
    map (λ r. op.PutVertex (vid_of r.id.val) (place + 1) (row_of columns words.columns r.values.list) words.absent) words.rows

-- the same of edges; in each row the ids come first
unfoldable pub edge_counts : List Spanned → List EdgeRow → Option BookRefused
edge_counts names rows = first_among (λ r. wrong_count names r.values) rows

unfoldable pub edge_values : VidKind → List Column → List Spanned → List EdgeRow → Option BookRefused
edge_values ids columns names rows = first_among (λ r. first_of (wrong_ends ids r.ends ∷ wrong_value columns names r.values.list ∷ [])) rows

unfoldable pub edge_longs : VidKind → List EdgeRow → Option BookRefused
edge_longs ids rows = first_among (λ r. long_ends ids r.ends) rows

-- the first edge that is one too many for a call
unfoldable pub edge_beyond : List EdgeRow → Option BookRefused
edge_beyond rows = option_map (λ r. TooMany r.ends.src.at) (slice_get rows most_edges)

-- what refuses INSERT EDGE, in this order
abbrev pub edges_refused : VidKind → List Column → PutEdges → Option BookRefused
edges_refused ids columns words = first_of (
    no_such_column columns words.columns
    ∷ name_twice [] words.columns
    ∷ edge_counts words.columns words.rows
    ∷ edge_values ids columns words.columns words.rows
    ∷ edge_longs ids words.rows
    ∷ not_set columns words.columns
    ∷ edge_beyond words.rows
    ∷ [])

-- where an edge stands among edges with their rows
abbrev pub edge_place : EdgeId → List (EdgeId × List Val) → Option ℕ
edge_place e kept = position_from (λ x. eq_by_cmp edge_cmp e x.0) 0 kept

-- a row joins those before it: of an edge that stands there the last row counts, or, with IF NOT EXISTS, the first
abbrev pub joined_at : Bool → List (EdgeId × List Val) → EdgeId × List Val → Option ℕ → List (EdgeId × List Val)
joined_at absent kept x None = kept ++ x ∷ []
joined_at absent kept x (Some i) = if absent then kept else slice_set kept i x

abbrev pub joined : Bool → List (EdgeId × List Val) → EdgeId × List Val → List (EdgeId × List Val)
joined absent kept x = joined_at absent kept x (edge_place x.0 kept)

-- each edge once, at its first place
abbrev pub once : Bool → List (EdgeId × List Val) → List (EdgeId × List Val)
once absent rows = fold (joined absent) [] rows

-- the edges with their rows, as they are written
abbrev pub edge_rows : ℕ → List Column → List Spanned → List EdgeRow → List (EdgeId × List Val)
edge_rows place columns names rows = map (λ r. (edge_of place r.ends, row_of columns names r.values.list)) rows

-- one call for all edges, and none where there is no edge
abbrev pub put_call : Bool → List (EdgeId × List Val) → List Op
put_call absent [] = []
put_call absent (x ∷ rows) = op.PutEdges (x ∷ rows) absent ∷ []

unfoldable pub edge_calls : ℕ → List Column → PutEdges → List Op
edge_calls place columns words = put_call words.absent (once words.absent (edge_rows place columns words.columns words.rows))

-- an edge joins those before it, if it isn't one of them
abbrev pub edge_joined : List EdgeId → EdgeId → List EdgeId
edge_joined kept e = if has_key edge_cmp e kept then kept else kept ++ e ∷ []

-- each edge once, at its first place
abbrev pub edges_once : List EdgeId → List EdgeId
edges_once edges = fold edge_joined [] edges

-- one call for all edges, and none where there is no edge
abbrev pub del_call : List EdgeId → List Op
del_call [] = []
del_call (e ∷ edges) = op.DelEdges (e ∷ edges) ∷ []

unfoldable pub del_calls : ℕ → List Ends → List Op
del_calls place ends = del_call (edges_once (map (edge_of place) ends))

-- the first that is one too many for a call
unfoldable pub ends_beyond : List Ends → Option BookRefused
ends_beyond list = option_map (λ e. TooMany e.src.at) (slice_get list most_edges)
