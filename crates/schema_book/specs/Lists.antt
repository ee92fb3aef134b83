-- Lists of ids and of ends: what refuses them, and the calls and reads that they make.
use Rattle.std.specs.Prelude.{ℕ, ◌+◌, List, [], ◌∷◌, map, Option}
use Rattle.graph_model.specs.declared.op.Op.{Op}
use Rattle.graph_model.specs.declared.op.Op.TheVariants.{DelVertex}
use Rattle.graph_model.specs.declared.query.Query.{Query}
use Rattle.graph_model.specs.declared.query.Query.TheVariants.{Tag, Edge}
use Rattle.part_keys.specs.declared.vid_kind.VidKind.{VidKind}
use Rattle.ngql_syntax.specs.declared.lit.Lit.{Lit}
use Rattle.ngql_syntax.specs.declared.put.Ends.{Ends}
use Rattle.schema_book.specs.declared.refused.BookRefused.{BookRefused}
use Rattle.schema_book.specs.Ids.{vid_of, edge_of, wrong_vid, wrong_ends, long_vid, long_ends}
use Rattle.schema_book.specs.Refusals.{first_of, first_among}

-- the first id of the other kind
unfoldable pub wrong_vids : VidKind → List Lit → Option BookRefused
wrong_vids ids list = first_among (wrong_vid ids) list

-- the first id that is too long
unfoldable pub long_vids : VidKind → List Lit → Option BookRefused
long_vids ids list = first_among (long_vid ids) list

-- ids are refused for their kind before any is for its length
unfoldable pub vids_refused : VidKind → List Lit → Option BookRefused
vids_refused ids list = first_of (wrong_vids ids list ∷ long_vids ids list ∷ [])

-- the same of ends
unfoldable pub wrong_ends_among : VidKind → List Ends → Option BookRefused
wrong_ends_among ids list = first_among (wrong_ends ids) list

unfoldable pub long_ends_among : VidKind → List Ends → Option BookRefused
long_ends_among ids list = first_among (long_ends ids) list

unfoldable pub ends_refused : VidKind → List Ends → Option BookRefused
ends_refused ids list = first_of (wrong_ends_among ids list ∷ long_ends_among ids list ∷ [])

-- a call for each vertex that is removed
unfoldable pub vertex_dels : List Lit → List Op
vertex_dels list = map (λ l. DelVertex (vid_of l.val)) list

-- a read of the tag at a place for each id
unfoldable pub tag_reads : ℕ → List Lit → List Query
tag_reads place list = map (λ l. Tag (vid_of l.val) (place + 1)) list

-- a read of an edge of the type at a place for each pair of ends
unfoldable pub edge_reads : ℕ → List Ends → List Query
edge_reads place list = map (λ e. Edge (edge_of place e)) list
