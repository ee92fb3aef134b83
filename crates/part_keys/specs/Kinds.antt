-- Which ids a space takes, and so which edges, queries and entries.
use Rattle.std.specs.Prelude.{◌&&◌, Bool, true, false, List, length, nat_le, nat_lt}
use Rattle.std.specs.List.{list_all}
use Rattle.graph_model.specs.declared.vid.Vid.{Vid}
use Rattle.graph_model.specs.declared.vid.Vid.TheVariants.{Num, Name}
use Rattle.graph_model.specs.declared.edge_id.EdgeId.{EdgeId}
use Rattle.graph_model.specs.declared.half.Half.{Half}
use Rattle.graph_model.specs.declared.op.Op.{Op}
use Rattle.graph_model.specs.declared.op.Op.TheVariants.{PutEdges, DelEdges, PutVertex, DelVertex, Read as ReadOp}
use Rattle.graph_model.specs.declared.query.Query.{Query}
use Rattle.graph_model.specs.declared.query.Query.TheVariants as asked
use Rattle.part_keys.specs.declared.entry.PartEntry.{PartEntry}
use Rattle.part_keys.specs.declared.entry.PartEntry.TheVariants.{Prime, Local, Double, Close, Abort, Remote, Fence, Vertex, Read}
use Rattle.part_keys.specs.declared.vid_kind.VidKind.{VidKind}
use Rattle.part_keys.specs.declared.vid_kind.VidKind.TheVariants as kinds

-- an id of the kind: a number, or a text of at most that many bytes
abbrev pub is_id_of : VidKind → Vid → Bool
is_id_of kinds.Num (Num n) = true
is_id_of kinds.Num (Name name) = false
is_id_of (kinds.Name most) (Num n) = false
is_id_of (kinds.Name most) (Name name) = nat_le name.len most

-- both ends of the edge are of the kind
abbrev pub is_edge_of : VidKind → EdgeId → Bool
is_edge_of ids e = is_id_of ids e.src && is_id_of ids e.dst

-- there is an edge, and each is of the kind
abbrev pub are_edges_of : VidKind → List EdgeId → Bool
are_edges_of ids edges = nat_lt 0 (length edges) && list_all (is_edge_of ids) edges

-- the same of edges with their halves
abbrev pub are_halves_of : VidKind → List (EdgeId × Half) → Bool
are_halves_of ids list = nat_lt 0 (length list) && list_all (λ (x : EdgeId × Half). is_edge_of ids x.0) list

-- the ids that the query names are of the kind
abbrev pub is_query_of : VidKind → Query → Bool
is_query_of ids (asked.Tag v tag) = is_id_of ids v
is_query_of ids (asked.Edge e) = is_edge_of ids e
is_query_of ids (asked.Out v types) = is_id_of ids v
is_query_of ids (asked.In v types) = is_id_of ids v
is_query_of ids (asked.Both v types) = is_id_of ids v

-- a change of a vertex: its id is of the kind
abbrev pub is_change_of : VidKind → Op → Bool
is_change_of ids (PutVertex v tag row absent) = is_id_of ids v
is_change_of ids (DelVertex v) = is_id_of ids v
is_change_of ids (PutEdges rows absent) = false
is_change_of ids (DelEdges edges) = false
is_change_of ids (ReadOp query) = false

-- An entry of a space with ids of this kind: each id that it names is of the kind, and a list of edges holds at least one.
abbrev pub is_entry_of : VidKind → PartEntry → Bool
is_entry_of ids (Prime id list absent) = are_halves_of ids list
is_entry_of ids (Local v) = true
is_entry_of ids (Double v) = true
is_entry_of ids (Close v) = true
is_entry_of ids (Abort v) = true
is_entry_of ids (Remote source term v list) = are_halves_of ids list
is_entry_of ids (Fence source term v edges) = are_edges_of ids edges
is_entry_of ids (Vertex id op) = is_change_of ids op
is_entry_of ids (Read id query) = is_query_of ids query
