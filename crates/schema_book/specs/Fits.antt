-- What fits a schema: rows fit columns, ids are of the space's kind, and tags, edge types and columns are there.
use Rattle.std.specs.Prelude.{ℕ, zero, suc, ℤ, pos, negsuc, ◌&&◌, Bool, true, false, is_some, nat_lt, List, [], ◌∷◌, length, Option, None, Some, slice_get}
use Rattle.std.specs.List.{list_all}
use Rattle.std.specs.Option.{option_map, option_map_or}
use Rattle.graph_model.specs.declared.edge_id.EdgeId.{EdgeId}
use Rattle.graph_model.specs.declared.op.Op.{Op}
use Rattle.graph_model.specs.declared.op.Op.TheVariants.{PutEdges, DelEdges, PutVertex, DelVertex, Read}
use Rattle.graph_model.specs.declared.query.Query.{Query}
use Rattle.graph_model.specs.declared.query.Query.TheVariants.{Tag, Edge, Out, In, Both}
use Rattle.graph_model.specs.declared.val.Val.{Val}
use Rattle.graph_model.specs.declared.vid.Vid.{Vid}
use Rattle.graph_model.specs.Edges.{edges_among}
use Rattle.part_keys.specs.Kinds.{is_id_of, is_edge_of, are_edges_of}
use Rattle.part_keys.specs.declared.vid_kind.VidKind.{VidKind}
use Rattle.ngql_syntax.specs.declared.define.Column.{Column}
use Rattle.schema_book.specs.declared.bound.Bound.{Bound}
use Rattle.schema_book.specs.declared.bound.Bound.TheVariants.{Calls, Fetch, Go}
use Rattle.schema_book.specs.declared.bound.Expr.{Expr}
use Rattle.schema_book.specs.declared.bound.Expr.TheVariants.{Prop}
use Rattle.schema_book.specs.declared.bound.GoPlan.{GoPlan}
use Rattle.schema_book.specs.declared.bound.Step.{Step}
use Rattle.schema_book.specs.declared.bound.Step.TheVariants.{Test}
use Rattle.schema_book.specs.declared.space.Space.{Space}
use Rattle.schema_book.specs.Columns.{fits}
use Rattle.schema_book.specs.Entries.{Entries}
use Rattle.schema_book.specs.Schema.{Schema}

-- whether the columns take the row: a value for each, in their order, and each fits
abbrev pub take_row : List Column → List Val → Bool
take_row [] [] = true
take_row [] (v ∷ row) = false
take_row (c ∷ columns) [] = false
take_row (c ∷ columns) (v ∷ row) = fits c v && take_row columns row

-- the columns of the tag, or the edge type, with this number; the first has number 1
abbrev pub columns_of : Entries → ℕ → Option (List Column)
columns_of entries zero = None
columns_of entries (suc place) = option_map (λ e. e.1) (slice_get entries place)

-- the same by the number of an edge's type
abbrev pub type_columns : Entries → ℤ → Option (List Column)
type_columns edges (pos number) = columns_of edges number
type_columns edges (negsuc n) = None

-- whether there is an edge type with this number
abbrev pub is_type : Entries → ℤ → Bool
is_type edges etype = is_some (type_columns edges etype)

-- whether the row fits columns that are there
abbrev pub is_row_of : Option (List Column) → List Val → Bool
is_row_of columns row = option_map_or (λ cs. take_row cs row) columns false

-- an edge with its row: its ends are of the kind, and its row fits its type
abbrev pub edge_row_fits : Entries → VidKind → EdgeId × List Val → Bool
edge_row_fits edges ids x = is_edge_of ids x.0 && is_row_of (type_columns edges x.0.etype) x.1

-- an edge: its ends are of the kind, and its type is there
abbrev pub edge_fits : Entries → VidKind → EdgeId → Bool
edge_fits edges ids e = is_edge_of ids e && is_type edges e.etype

-- the edges of a vertex: its id is of the kind, and each type is there
abbrev pub walk_fits : Entries → VidKind → Vid → List ℤ → Bool
walk_fits edges ids v types = is_id_of ids v && list_all (is_type edges) types

abbrev pub query_fits : Schema → VidKind → Query → Bool
query_fits s ids (Tag v tag) = is_id_of ids v && is_some (columns_of s.tags tag)
query_fits s ids (Edge e) = edge_fits s.edges ids e
query_fits s ids (Out v types) = walk_fits s.edges ids v types
query_fits s ids (In v types) = walk_fits s.edges ids v types
query_fits s ids (Both v types) = walk_fits s.edges ids v types

-- a column by the number of its tag or edge type and its place there: it is there
abbrev pub is_column : Entries → ℕ × ℕ → Bool
is_column entries at = option_map_or (λ cs. nat_lt at.1 (length cs)) (columns_of entries at.0) false

-- what is shown or compared: each column that it looks at is there
abbrev pub expr_fits : Entries → Expr → Bool
expr_fits entries (Prop places) = list_all (is_column entries) places
expr_fits entries others = true

abbrev pub step_fits : Entries → Step → Bool
step_fits entries (Test e rel value) = expr_fits entries e
step_fits entries others = true

abbrev pub cond_fits : Entries → Option (List Step) → Bool
cond_fits entries None = true
cond_fits entries (Some steps) = list_all (step_fits entries) steps

-- a read, and what is shown of what it finds: columns of tags, or of edge types
abbrev pub entries_read : Schema → Query → Entries
entries_read s (Tag v tag) = s.tags
entries_read s others = s.edges

abbrev pub read_fits : Schema → VidKind → List Expr → Query → Bool
read_fits s ids shown query = query_fits s ids query && list_all (expr_fits (entries_read s query)) shown

-- where a walk starts, what it follows, and what is compared and shown
abbrev pub plan_fits : Entries → VidKind → GoPlan → Bool
plan_fits edges ids plan =
    list_all (is_id_of ids) plan.start && list_all (is_type edges) plan.types && cond_fits edges plan.keep && list_all (expr_fits edges) plan.shown

-- an operation; it has at least one edge where it has edges
abbrev pub op_fits : Schema → VidKind → Op → Bool
op_fits s ids (PutEdges rows absent) = are_edges_of ids (edges_among rows) && list_all (edge_row_fits s.edges ids) rows
op_fits s ids (DelEdges edges) = are_edges_of ids edges && list_all (edge_fits s.edges ids) edges
op_fits s ids (PutVertex v tag row absent) = is_id_of ids v && is_row_of (columns_of s.tags tag) row
op_fits s ids (DelVertex v) = is_id_of ids v
op_fits s ids (Read query) = query_fits s ids query

-- what is bound in a space: each call, each read, or the walk
abbrev pub fits_in : Schema → VidKind → Bound → Bool
fits_in s ids (Calls ops) = list_all (op_fits s ids) ops
fits_in s ids (Fetch plan) = list_all (read_fits s ids plan.shown) plan.reads
fits_in s ids (Go plan) = plan_fits s.edges ids plan

-- nothing that is bound fits where there is no space
abbrev pub fits_space : Schema → Option Space → Bound → Bool
fits_space s None bound = false
fits_space s (Some space) bound = fits_in s space.ids bound

-- whether what is bound fits the schema
abbrev pub bound_fits : Schema → Bound → Bool
bound_fits s bound = fits_space s s.space bound
