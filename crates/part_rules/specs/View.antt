-- What a query finds in a part, and which chains stand there.
use Rattle.std.specs.Prelude.{ℕ, nat_lt, List, Option, map, take}
use Rattle.std.specs.Option.{option_map}
use Rattle.std.specs.List.{filter, filter_map}
use Rattle.std.specs.FinMap.{FinMap, from_entries, entries}
use Rattle.graph_model.specs.Keys.{in_cmp}
use Rattle.graph_model.specs.declared.val.Val.{Val}
use Rattle.graph_model.specs.declared.in_key.InKey.{InKey}
use Rattle.graph_model.specs.declared.found.Found.{Found}
use Rattle.graph_model.specs.declared.query.Query.{Query}
use Rattle.graph_model.specs.Contents.{Contents, row_of}
use Rattle.graph_model.specs.Views.{view_of}
use Rattle.part_keys.specs.declared.chain.PrimeRec.{PrimeRec}
use Rattle.part_keys.specs.declared.in_half.InHalf.{InHalf}
use Rattle.part_rules.specs.Part.{Part}

-- an in-half that is here, with its row
abbrev pub row_here : InKey × InHalf → Option (InKey × List Val)
row_here x = option_map (λ row. (x.0, row)) (row_of x.1.half)

-- the in-halves that are here
abbrev pub rows_here : FinMap in_cmp InHalf → FinMap in_cmp (List Val)
rows_here inn = from_entries (filter_map row_here (entries inn))

-- a part's rows and halves, as those of a graph
abbrev pub contents_of : Part → Contents
contents_of p = record { verts = p.tags; out = p.out; inn = rows_here p.inn }

-- what a query finds in a part: what it finds in a graph with these contents
abbrev pub view : Query → Part → List Found
view query p = view_of query (contents_of p)

-- the chains that stand behind a number, by rising number
abbrev pub chains_behind : ℕ → Part → List (ℕ × PrimeRec)
chains_behind after p = filter (λ (c : ℕ × PrimeRec). nat_lt after c.0) (entries p.chains)

-- so many chains are taken up at once
abbrev pub at_once : ℕ
at_once = 64

-- the first chains behind a number, as many as are taken up at once, or all where there are fewer
abbrev pub primes : ℕ → Part → List PrimeRec
primes after p = map (λ (c : ℕ × PrimeRec). c.1) (take at_once (chains_behind after p))
