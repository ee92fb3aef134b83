-- What a call does, taken apart.
use Rattle.std.specs.Prelude.{Bool, true, false, List, [], map, Option, None, Some}
use Rattle.graph_model.specs.declared.vid.Vid.{Vid}
use Rattle.graph_model.specs.declared.edge_id.EdgeId.{EdgeId}
use Rattle.graph_model.specs.declared.half.Half.{Half}
use Rattle.graph_model.specs.declared.half.Half.TheVariants.{Absent, Here}
use Rattle.graph_model.specs.declared.query.Query.{Query}
use Rattle.graph_model.specs.declared.op.Op.{Op}
use Rattle.graph_model.specs.declared.op.Op.TheVariants.{PutEdges, DelEdges, PutVertex, DelVertex, Read}
pub use Rattle.graph_model.specs.Edges.{edges_in, edges_among, is_once_each, are_edges}

-- the edges of an op, each with its new half: `Here(row)` for PutEdges, `Absent` for DelEdges
abbrev pub halves_of : Op → List (EdgeId × Half)
halves_of (PutEdges rows absent) = map (λ x. (x.0, Here x.1)) rows
halves_of (DelEdges edges) = map (λ e. (e, Absent)) edges
halves_of others = []

-- the edges of an op, in its order
abbrev pub edges_of : Op → List EdgeId
edges_of op = edges_in (halves_of op)

-- whether the op puts or removes edges
abbrev pub is_edge_op : Op → Bool
is_edge_op (PutEdges rows absent) = true
is_edge_op (DelEdges edges) = true
is_edge_op others = false

-- whether the op is PutEdges with IF NOT EXISTS
abbrev pub is_careful : Op → Bool
is_careful (PutEdges rows absent) = absent
is_careful others = false

-- whether the op writes or removes a vertex
abbrev pub is_vertex_op : Op → Bool
is_vertex_op (PutVertex v t row absent) = true
is_vertex_op (DelVertex v) = true
is_vertex_op others = false

-- what the op asks, if it is a read
abbrev pub query_of : Op → Option Query
query_of (Read q) = Some q
query_of others = None

-- the vertex that the op writes or removes
abbrev pub vertex_of : Op → Option Vid
vertex_of (PutVertex v t row absent) = Some v
vertex_of (DelVertex v) = Some v
vertex_of others = None

-- what the type of an op keeps: an op on edges has 1 to 64 of them, none twice, each of a positive type
abbrev pub is_op : Op → Bool
is_op (PutEdges rows absent) = are_edges (edges_among rows)
is_op (DelEdges edges) = are_edges edges
is_op others = true
