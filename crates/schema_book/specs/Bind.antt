-- What a statement binds to, and what refuses it.
use Rattle.std.specs.Prelude.{◌≡◌, ℕ, ◌+◌, ◌<◌, pos, List, [], ◌∷◌, map, Option, None, Some, Result, Ok, Err}
use Rattle.std.specs.Option.{option_map}
use denote.Ref.{Bor}
use Rattle.part_keys.specs.declared.vid_kind.VidKind.{VidKind}
use Rattle.ngql_syntax.specs.declared.define.Column.{Column}
use Rattle.ngql_syntax.specs.declared.expr.RawExpr.{RawExpr}
use Rattle.ngql_syntax.specs.declared.go.GoWords.{GoWords}
use Rattle.ngql_syntax.specs.declared.lit.Lit.{Lit}
use Rattle.ngql_syntax.specs.declared.put.Ends.{Ends}
use Rattle.ngql_syntax.specs.declared.put.PutEdges.{PutEdges}
use Rattle.ngql_syntax.specs.declared.put.PutVertices.{PutVertices}
use Rattle.ngql_syntax.specs.declared.spanned.Spanned.{Spanned}
use Rattle.ngql_syntax.specs.declared.statement.Statement.{Statement}
use Rattle.ngql_syntax.specs.declared.statement.Statement.TheVariants.{Make, Select, PutVertex, PutEdge, DelVertex, DelEdge, FetchVertex, FetchEdge, Go as GoOver}
use Rattle.schema_book.specs.declared.bound.Bound.{Bound}
use Rattle.schema_book.specs.declared.bound.Bound.TheVariants.{Calls, Fetch, Go}
use Rattle.schema_book.specs.declared.bound.GoPlan.{GoPlan}
use Rattle.schema_book.specs.declared.refused.BookRefused.{BookRefused}
use Rattle.schema_book.specs.declared.refused.BookRefused.TheVariants.{NoSpace, NoSuchName}
use Rattle.schema_book.specs.declared.refused.Stop.{Stop}
use Rattle.schema_book.specs.declared.refused.Stop.TheVariants.{Refused, NoMemory}
use Rattle.schema_book.specs.declared.space.Space.{Space}
use Rattle.schema_book.specs.Entries.{Entries, entry_of, most_entries}
use Rattle.schema_book.specs.Exprs.{exprs_refused, exprs_of, cond_refused, steps_of, over_refused, over_places}
use Rattle.schema_book.specs.Ids.{vid_of}
use Rattle.schema_book.specs.Lists.{vids_refused, ends_refused, vertex_dels, tag_reads, edge_reads}
use Rattle.schema_book.specs.Puts.{vertices_refused, vertex_calls, edges_refused, edge_calls, ends_beyond, del_calls}
use Rattle.schema_book.specs.Refusals.{first_of, else_gives}
use Rattle.schema_book.specs.Schema.{Schema}

-- by the place and the columns of what a name says, which is refused where nothing has it
abbrev pub with_entry : {A : Type 0} → Spanned → Option (ℕ × List Column) → (ℕ → List Column → Result A BookRefused) → Result A BookRefused
with_entry name None answer = Err (NoSuchName name.text)
with_entry name (Some e) answer = answer e.0 e.1

-- INSERT VERTEX
unfoldable pub vertices_put : Entries → VidKind → PutVertices → Result Bound BookRefused
vertices_put tags ids words = with_entry words.name (entry_of words.name.text tags) (λ place columns.
    else_gives (vertices_refused ids columns words) (Ok (Calls (vertex_calls place columns words))))

-- INSERT EDGE
unfoldable pub edges_put : Entries → VidKind → PutEdges → Result Bound BookRefused
edges_put edges ids words = with_entry words.name (entry_of words.name.text edges) (λ place columns.
    else_gives (edges_refused ids columns words) (Ok (Calls (edge_calls place columns words))))

-- DELETE VERTEX
unfoldable pub vertices_deleted : VidKind → List Lit → Result Bound BookRefused
vertices_deleted ids list = else_gives (vids_refused ids list) (Ok (Calls (vertex_dels list)))

-- DELETE EDGE
unfoldable pub edges_deleted : Entries → VidKind → Spanned → List Ends → Result Bound BookRefused
edges_deleted edges ids name list = with_entry name (entry_of name.text edges) (λ place columns.
    else_gives (first_of (ends_refused ids list ∷ ends_beyond list ∷ [])) (Ok (Calls (del_calls place list))))

-- FETCH of a tag
unfoldable pub vertices_fetched : Entries → VidKind → Spanned → List Lit → List RawExpr → Result Bound BookRefused
vertices_fetched tags ids name list shown = with_entry name (entry_of name.text tags) (λ place columns.
    else_gives (first_of (exprs_refused tags (place ∷ []) shown ∷ vids_refused ids list ∷ []))
    (Ok (Fetch (record { reads = tag_reads place list; shown = exprs_of tags (place ∷ []) shown }))))

-- FETCH of an edge type
unfoldable pub edges_fetched : Entries → VidKind → Spanned → List Ends → List RawExpr → Result Bound BookRefused
edges_fetched edges ids name list shown = with_entry name (entry_of name.text edges) (λ place columns.
    else_gives (first_of (exprs_refused edges (place ∷ []) shown ∷ ends_refused ids list ∷ []))
    (Ok (Fetch (record { reads = edge_reads place list; shown = exprs_of edges (place ∷ []) shown }))))

-- what refuses GO, in this order: names behind OVER, in WHERE, in YIELD; then ids
unfoldable pub walk_refused : Entries → VidKind → GoWords → Option BookRefused
walk_refused edges ids words = first_of (
    over_refused edges words.over
    ∷ cond_refused edges (over_places edges words.over) words.keep
    ∷ exprs_refused edges (over_places edges words.over) words.shown
    ∷ vids_refused ids words.start
    ∷ [])

-- the plan of GO over the types at these places
unfoldable pub walk_plan : Entries → List ℕ → GoWords → GoPlan
walk_plan edges places words = record {
  steps = words.steps;
  start = map (λ l. vid_of l.val) words.start;
  types = map (λ i. pos (i + 1)) places;
  way = words.way;
  keep = option_map (steps_of edges places) words.keep;
  shown = exprs_of edges places words.shown;
}

-- GO
unfoldable pub walked : Entries → VidKind → GoWords → Result Bound BookRefused
walked edges ids words = else_gives (walk_refused edges ids words) (Ok (Go (walk_plan edges (over_places edges words.over) words)))

-- what a statement binds to in a space; CREATE and USE make no call
abbrev pub bound_in : Schema → VidKind → Statement → Result Bound BookRefused
bound_in s ids (Make define) = Ok (Calls [])
bound_in s ids (Select name) = Ok (Calls [])
bound_in s ids (PutVertex words) = vertices_put s.tags ids words
bound_in s ids (PutEdge words) = edges_put s.edges ids words
bound_in s ids (DelVertex list) = vertices_deleted ids list
bound_in s ids (DelEdge name list) = edges_deleted s.edges ids name list
bound_in s ids (FetchVertex name list shown) = vertices_fetched s.tags ids name list shown
bound_in s ids (FetchEdge name list shown) = edges_fetched s.edges ids name list shown
bound_in s ids (GoOver words) = walked s.edges ids words

-- a statement needs a space
abbrev pub bound_by : Schema → Statement → Option Space → Result Bound BookRefused
bound_by s statement None = Err NoSpace
bound_by s statement (Some space) = bound_in s space.ids statement

abbrev pub bound : Schema → Statement → Result Bound BookRefused
bound s statement = bound_by s statement s.space

-- an answer is what the name says, unless memory runs out
abbrev pub Names : Result (ℕ × Bor (List Column)) Stop → Spanned → Option (ℕ × List Column) → Type 0
Names (Ok e) name entry = (entry ≡ Some (e.0, e.1.now)) × (e.0 < most_entries)
Names (Err (Refused why)) name entry = (entry ≡ None) × (why ≡ NoSuchName name.text)
Names (Err NoMemory) name entry = Unit {0}
