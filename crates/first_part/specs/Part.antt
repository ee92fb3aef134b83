-- The state of a part, and what each entry makes of it.
use Rattle.std.specs.Prelude.{ℕ, ℤ, ◌==◌, nat_lt, List, [], ◌++◌, Option, None, Some, Bool, true, false, not, ◌&&◌, if◌then◌else◌}
use Rattle.std.specs.Ordering.{nat_cmp}
use Rattle.std.specs.Option.{option_map}
use Rattle.std.specs.List.{filter_map}
use Rattle.std.specs.FinMap.{FinMap, empty, get, insert, remove, contains_key, entries}
use Rattle.first_graph.specs.Keys.{edge_cmp, in_cmp, in_key, edge_of}
use Rattle.first_graph.specs.Maps.{with_at, altered}
use Rattle.first_graph.specs.Contents.{row_of}
use Rattle.first_graph.specs.Views.{is_wanted, row_alone, found_out}
use Rattle.first_graph.specs.declared.val.Val.{Val}
use Rattle.first_graph.specs.declared.half.Half.{Half}
use Rattle.first_graph.specs.declared.edge_id.EdgeId.{EdgeId}
use Rattle.first_graph.specs.declared.in_key.InKey.{InKey}
use Rattle.first_graph.specs.declared.call_id.CallId.{CallId}
use Rattle.first_graph.specs.declared.found.Found.{Found}
use Rattle.first_graph.specs.declared.query.Query.{Query}
use Rattle.first_graph.specs.declared.query.Query.TheVariants.{Tag, Edge, Out, In, Both}
use Rattle.first_part.specs.declared.clients.Kept.{Kept}
use Rattle.first_part.specs.declared.clients.Outcome.{Outcome}
use Rattle.first_part.specs.declared.clients.Outcome.TheVariants.{Open, Skipped as SkippedThen, Conflict as ConflictThen}
use Rattle.first_part.specs.declared.in_halves.InHalf.{InHalf}
use Rattle.first_part.specs.declared.prime.PrimeRec.{PrimeRec}
use Rattle.first_part.specs.declared.applied.Applied.{Applied}
use Rattle.first_part.specs.declared.applied.Applied.TheVariants.{Old, Again, Conflict, Skipped, Begun, Settled, Done, Shown, Nothing}
use Rattle.first_part.specs.declared.entry.PartEntry.{PartEntry}
use Rattle.first_part.specs.declared.entry.PartEntry.TheVariants.{Prime, Local, Double, Close, Abort, Remote, Fence, Vertex, Read}
use Rattle.first_part.specs.InHalf.{number_of}
use Rattle.first_part.specs.Kept.{settled}

-- the out-halves that are here, the in-halves with their chains' numbers, the chains under way, and of each
-- client its last call
pub record Part : Type 0 where
  pub out : FinMap edge_cmp (List Val)
  pub inn : FinMap in_cmp InHalf
  pub primes : FinMap edge_cmp PrimeRec
  pub kept : FinMap nat_cmp Kept

abbrev pub start : Part
start = record { out = empty; inn = empty; primes = empty; kept = empty }

-- an in-half of the vertex that is here, of one of the types
abbrev pub found_here : ℤ → List ℤ → InKey × InHalf → Option Found
found_here v types e =
    if is_wanted v types e.0.dst e.0.etype
    then option_map (λ row. record { edge = Some (edge_of e.0); inward = true; row = row }) (row_of e.1.half)
    else None

-- what a query finds in the part; no tag is kept here yet
abbrev pub seen : Query → Part → List Found
seen (Tag v t) p = []
seen (Edge e) p = row_alone (Some e) (get p.out e)
seen (Out v types) p = filter_map (found_out v types) (entries p.out)
seen (In v types) p = filter_map (found_here v types) (entries p.inn)
seen (Both v types) p = filter_map (found_here v types) (entries p.inn) ++ filter_map (found_out v types) (entries p.out)

-- the part with this last call of a client
abbrev pub keeping : Part → CallId → Outcome → Part
keeping p id outcome =
    record {
      out = p.out;
      inn = p.inn;
      primes = p.primes;
      kept = insert p.kept id.client (record { number = id.number; outcome = outcome });
    }

-- a call's number below the client's kept one is old; the kept one is answered as before; a new one goes on
abbrev pub where_new : Part → CallId → Option Kept → Part × Applied → Part × Applied
where_new p id None next = next
where_new p id (Some kept) next =
    if nat_lt id.number kept.number then (p, Old)
    else if id.number == kept.number then (p, Again kept.outcome)
    else next

-- a chain begins; its number is the index of its Prime
abbrev pub begun : Part → ℕ → CallId → EdgeId → Half → Part
begun p index id e half =
    record {
      out = p.out;
      inn = p.inn;
      primes = insert p.primes e (record { edge = e; v = index; id = id; fresh_half = half; double = false });
      kept = insert p.kept id.client (record { number = id.number; outcome = Open });
    }

-- a chain on the edge conflicts; an edge that is there is left where it was asked to be absent; else a chain begins
abbrev pub primed : Part → ℕ → CallId → EdgeId → Half → Bool → Option PrimeRec → Part × Applied
primed p index id e half absent (Some prime) = (keeping p id (ConflictThen prime.id), Conflict prime.id)
primed p index id e half absent None =
    if absent && contains_key p.out e
    then (keeping p id SkippedThen, Skipped)
    else (begun p index id e half, Begun index)

-- the out-half is the chain's new half, the chain is gone, and the client's call is Fine
abbrev pub settling : Part → EdgeId → PrimeRec → Part
settling p e prime =
    record {
      out = with_at p.out e (row_of prime.fresh_half);
      inn = p.inn;
      primes = remove p.primes e;
      kept = altered p.kept prime.id.client (settled prime.id.number);
    }

-- a Local is for the chain of its number that isn't double; else it changes nothing
abbrev pub localized : Part → EdgeId → ℕ → Option PrimeRec → Part × Applied
localized p e v None = (p, Nothing)
localized p e v (Some prime) =
    if prime.v == v && not prime.double then (settling p e prime, Settled prime.id) else (p, Nothing)

-- the in-half has this value and this number now
abbrev pub written : Part → EdgeId → ℕ → Half → Part
written p e v half =
    record { out = p.out; inn = insert p.inn (in_key e) (record { v = v; half = half }); primes = p.primes; kept = p.kept }

-- whether a Remote of this chain writes the edge's in-half: no later chain wrote it, nor did this one
abbrev pub is_fresh : Part → EdgeId → ℕ → Bool
is_fresh p e v = nat_lt (number_of (get p.inn (in_key e))) v

-- what an entry at this index leaves, and its answer. No replica makes the last five yet, and they change nothing
abbrev pub applied : Part → ℕ → PartEntry → Part × Applied
applied p index (Prime id e half absent) =
    where_new p id (get p.kept id.client) (primed p index id e half absent (get p.primes e))
applied p index (Local e v) = localized p e v (get p.primes e)
applied p index (Remote from term e v half) = (if is_fresh p e v then written p e v half else p, Done)
applied p index (Read id query) = (p, Shown id (seen query p))
applied p index (Double e v) = (p, Nothing)
applied p index (Close e v) = (p, Nothing)
applied p index (Abort e v) = (p, Nothing)
applied p index (Fence source term e v) = (p, Nothing)
applied p index (Vertex id change) = (p, Nothing)
