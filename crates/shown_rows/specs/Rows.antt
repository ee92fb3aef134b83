-- The rows that a statement shows.
use Rattle.std.specs.Prelude.{Bool, true, List, map, filter, flat_map, Option, None, Some}
use Rattle.std.specs.List.{zip}
use Rattle.graph_model.specs.declared.found.Found.{Found}
use Rattle.graph_model.specs.declared.query.Query.{Query}
use Rattle.graph_model.specs.declared.query.Query.TheVariants.{Tag, Edge, Out, In, Both}
use Rattle.graph_model.specs.declared.tag_key.TagKey.{TagKey}
use Rattle.graph_model.specs.declared.val.Val.{Val}
use Rattle.schema_book.specs.declared.bound.Expr.{Expr}
use Rattle.schema_book.specs.declared.bound.FetchPlan.{FetchPlan}
use Rattle.schema_book.specs.declared.bound.GoPlan.{GoPlan}
use Rattle.schema_book.specs.declared.bound.Step.{Step}
use Rattle.schema_book.specs.Entries.{Entries}
use Rattle.shown_rows.specs.Conditions.{holds}
use Rattle.shown_rows.specs.Values.{value_of}

-- whether an edge is kept: each is where no WHERE stands
unfoldable pub is_kept : Entries → Option (List Step) → Found → Bool
is_kept edges None found = true
is_kept edges (Some steps) found = holds edges found steps

-- what YIELD shows of one thing that was found
unfoldable pub row_of : Entries → Option TagKey → List Expr → Found → List Val
row_of edges key shown found = map (value_of edges key found) shown

-- the vertex and the tag of which a read is
abbrev pub key_of : Query → Option TagKey
key_of (Tag v t) = Some (record { vid = v; tag = t })
key_of (Edge e) = None
key_of (Out v types) = None
key_of (In v types) = None
key_of (Both v types) = None

-- what a read of a FETCH shows: a row where there is one
abbrev pub read_rows : Entries → List Expr → Query × List Found → List (List Val)
read_rows edges shown read = map (row_of edges (key_of read.0) shown) read.1

-- FETCH: what its reads found, in the order of the reads
abbrev pub fetched_rows : Entries → FetchPlan → List (List Found) → List (List Val)
fetched_rows edges plan views = flat_map (read_rows edges plan.shown) (zip plan.reads views)

-- what a read of the last step shows: each edge that is kept
unfoldable pub step_rows : Entries → GoPlan → List Found → List (List Val)
step_rows edges plan view = map (row_of edges None plan.shown) (filter (is_kept edges plan.keep) view)

-- GO: what the last step found, in the order in which it was found
abbrev pub walked_rows : Entries → GoPlan → List (List Found) → List (List Val)
walked_rows edges plan views = flat_map (step_rows edges plan) views
