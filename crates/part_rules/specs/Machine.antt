-- What each entry makes of a part's state, and its answer: one definition an entry, in the order of the entries.
use Rattle.std.specs.Prelude.{ℕ, ◌==◌, nat_lt, not, ◌&&◌, Bool, true, false, List, Option, None, Some, map, if◌then◌else◌}
use Rattle.std.specs.List.{filter, list_any}
use Rattle.std.specs.Ordering.{eq_by_cmp}
use Rattle.std.specs.FinMap.{FinMap, get, insert, remove, contains_key, retain_keys}
use Rattle.graph_model.specs.Keys.{vid_cmp, edge_cmp, in_cmp, in_key}
use Rattle.graph_model.specs.declared.val.Val.{Val}
use Rattle.graph_model.specs.declared.vid.Vid.{Vid}
use Rattle.graph_model.specs.declared.half.Half.{Half}
use Rattle.graph_model.specs.declared.half.Half.TheVariants.{Absent}
use Rattle.graph_model.specs.declared.edge_id.EdgeId.{EdgeId}
use Rattle.graph_model.specs.declared.in_key.InKey.{InKey}
use Rattle.graph_model.specs.declared.tag_key.TagKey.{TagKey}
use Rattle.graph_model.specs.declared.call_id.CallId.{CallId}
use Rattle.graph_model.specs.declared.op.Op.{Op}
use Rattle.graph_model.specs.declared.op.Op.TheVariants.{PutVertex, DelVertex}
use Rattle.graph_model.specs.Ops.{edges_in}
use Rattle.graph_model.specs.Contents.{row_of}
use Rattle.maps.specs.Maps.{altered}
use Rattle.maps.specs.Lists.{put_all, with_all, has_all, missing}
use Rattle.part_keys.specs.declared.chain.PrimeRec.{PrimeRec}
use Rattle.part_keys.specs.declared.in_half.InHalf.{InHalf}
use Rattle.part_keys.specs.declared.entry.PartEntry.{PartEntry}
use Rattle.part_keys.specs.declared.entry.PartEntry.TheVariants.{Prime, Local, Double, Close, Abort, Remote, Fence, Vertex, Read}
use Rattle.part_keys.specs.Routing.{remote_of}
use Rattle.part_rules.specs.declared.kept.Kept.{Kept}
use Rattle.part_rules.specs.declared.kept.Outcome.{Outcome}
use Rattle.part_rules.specs.declared.kept.Outcome.TheVariants as kept
use Rattle.part_rules.specs.declared.applied.Applied.{Applied}
use Rattle.part_rules.specs.declared.applied.Applied.TheVariants.{Old, Again, Conflict, Skipped, Begun, Settled, Doubled, Closed, Aborted, Stale, Done, Fenced, Finished, Nothing}
use Rattle.part_rules.specs.Part.{Part, guard_of, chain_on_any, is_stale, is_fresh, all_written}

-- Calls. A number below the client's kept one is Old; the kept one is answered again; a new one goes on.
abbrev pub where_new_to : Part → CallId → Part × Applied → Option Kept → Part × Applied
where_new_to p id next None = next
where_new_to p id next (Some last) =
    if nat_lt id.number last.number then (p, Old)
    else if id.number == last.number then (p, Again last.outcome)
    else next

-- the same, by what is kept of the call's client
abbrev pub where_new : Part → CallId → Part × Applied → Part × Applied
where_new p id next = where_new_to p id next (get p.clients id.client)

-- the part with this number kept, and its outcome
abbrev pub keeping : Part → CallId → Outcome → Part
keeping p id outcome = record p { clients = insert p.clients id.client (record { number = id.number; outcome = outcome }) }

-- the outcome of the client's last call is this now, where the number is that call's
abbrev pub with_outcome : ℕ → Outcome → Kept → Kept
with_outcome number outcome last = if last.number == number then record last { outcome = outcome } else last

-- the part with this outcome of the call
abbrev pub coming_to : Part → CallId → Outcome → Part
coming_to p id outcome = record p { clients = altered p.clients id.client (with_outcome id.number outcome) }

-- Prime. The edges that it takes: with the flag only those whose out-half isn't here.
abbrev pub taken_of : Part → List (EdgeId × Half) → Bool → List (EdgeId × Half)
taken_of p list true = missing p.out list
taken_of p list false = list

-- whether it leaves all its edges: with the flag, where each out-half is here
abbrev pub leaves_all : Part → List (EdgeId × Half) → Bool → Bool
leaves_all p list absent = absent && has_all p.out (edges_in list)

-- the chain that begins at an index
abbrev pub begun_at : ℕ → Part → ℕ → CallId → List (EdgeId × Half) → Bool → PrimeRec
begun_at parts p index id list absent = record { v = index; id = id; remote = remote_of parts (taken_of p list absent); list = taken_of p list absent; double = false }

-- the part in which it stands, its call open
abbrev pub beginning : ℕ → Part → ℕ → CallId → List (EdgeId × Half) → Bool → Part
beginning parts p index id list absent = record (keeping p id kept.Open) { chains = insert p.chains index (begun_at parts p index id list absent) }

-- where a chain stands on one of the edges it is in conflict with it; where it leaves all of them it is skipped; else a
-- chain begins
abbrev pub primed_by : ℕ → Part → ℕ → CallId → List (EdgeId × Half) → Bool → Option PrimeRec → Part × Applied
primed_by parts p index id list absent (Some chain) = (keeping p id (kept.Conflict chain.id), Conflict chain.id)
primed_by parts p index id list absent None =
    if leaves_all p list absent then (keeping p id kept.Skipped, Skipped)
    else (beginning parts p index id list absent, Begun index)

-- a Prime of a new call is in conflict, is skipped, or begins
abbrev pub primed : ℕ → Part → ℕ → CallId → List (EdgeId × Half) → Bool → Part × Applied
primed parts p index id list absent = where_new p id (primed_by parts p index id list absent (chain_on_any p (edges_in list)))

-- each out-half of the list := its half
abbrev pub out_written : FinMap edge_cmp (List Val) → List (EdgeId × Half) → FinMap edge_cmp (List Val)
out_written out list = with_all out (map (λ x. (x.0, row_of x.1)) list)

-- Local. A chain that isn't double: its out-halves := its halves, it is removed, and its call is Fine.
abbrev pub settling : Part → ℕ → PrimeRec → Part
settling p v chain = record (coming_to p chain.id kept.Fine) { out = out_written p.out chain.list; chains = remove p.chains v }

-- a chain that stands and isn't double is settled; else nothing changes
abbrev pub localized_by : Part → ℕ → Option PrimeRec → Part × Applied
localized_by p v None = (p, Nothing)
localized_by p v (Some chain) = if chain.double then (p, Nothing) else (settling p v chain, Settled chain.id)

-- a Local of v
abbrev pub localized : Part → ℕ → Part × Applied
localized p v = localized_by p v (get p.chains v)

-- Double. A chain that isn't double: its out-halves := its halves, it becomes double, and its call is Pending.
abbrev pub doubling : Part → ℕ → PrimeRec → Part
doubling p v chain = record (coming_to p chain.id kept.Pending) { out = out_written p.out chain.list; chains = insert p.chains v (record chain { double = true }) }

-- a chain that stands and isn't double becomes double; else nothing changes
abbrev pub doubled_by : Part → ℕ → Option PrimeRec → Part × Applied
doubled_by p v None = (p, Nothing)
doubled_by p v (Some chain) = if chain.double then (p, Nothing) else (doubling p v chain, Doubled chain.id)

-- a Double of v
abbrev pub doubled : Part → ℕ → Part × Applied
doubled p v = doubled_by p v (get p.chains v)

-- Close. A double chain: it is removed, and its call is Fine.
abbrev pub closing : Part → ℕ → PrimeRec → Part
closing p v chain = record (coming_to p chain.id kept.Fine) { chains = remove p.chains v }

-- a chain that stands and is double is closed; else nothing changes
abbrev pub closed_by : Part → ℕ → Option PrimeRec → Part × Applied
closed_by p v None = (p, Nothing)
closed_by p v (Some chain) = if chain.double then (closing p v chain, Closed chain.id) else (p, Nothing)

-- a Close of v
abbrev pub closed : Part → ℕ → Part × Applied
closed p v = closed_by p v (get p.chains v)

-- Abort. A chain that isn't double: it is removed, and its call is Cancelled.
abbrev pub aborting : Part → ℕ → PrimeRec → Part
aborting p v chain = record (coming_to p chain.id kept.Cancelled) { chains = remove p.chains v }

-- a chain that stands and isn't double is aborted; else nothing changes
abbrev pub aborted_by : Part → ℕ → Option PrimeRec → Part × Applied
aborted_by p v None = (p, Nothing)
aborted_by p v (Some chain) = if chain.double then (p, Nothing) else (aborting p v chain, Aborted chain.id)

-- an Abort of v
abbrev pub aborted : Part → ℕ → Part × Applied
aborted p v = aborted_by p v (get p.chains v)

-- Remote and Fence. Where the guard is above the term they are Stale; else the guard is raised to it.
abbrev pub raising : Part → ℕ → ℕ → Part
raising p from term = record p { guards = insert p.guards from term }

-- Remote: each in-half whose kept number is below v := its half, with number v.
abbrev pub in_halves : ℕ → List (EdgeId × Half) → List (InKey × InHalf)
in_halves v list = map (λ x. (in_key x.0, record { v = v; half = x.1 })) list

-- the in-halves behind it: those of the list that are fresh are written
abbrev pub in_written : Part → ℕ → List (EdgeId × Half) → FinMap in_cmp InHalf
in_written p v list = put_all p.inn (in_halves v (filter (is_fresh p v) list))

-- what a removal by chain v leaves in an in-half whose kept number is lower: a marker, that keeps v
abbrev pub mark : ℕ → ℕ → Option InHalf
mark kept v = if nat_lt kept v then Some (record { v = v; half = Absent }) else None

-- a Remote: Stale, or Done
abbrev pub remoted : Part → ℕ → ℕ → ℕ → List (EdgeId × Half) → Part × Applied
remoted p from term v list =
    if is_stale p from term then (p, Stale (guard_of p from))
    else (record (raising p from term) { inn = in_written p v list }, Done)

-- Fence: tells whether each edge's kept number is at least v.
abbrev pub fenced : Part → ℕ → ℕ → ℕ → List EdgeId → Part × Applied
fenced p from term v edges =
    if is_stale p from term then (p, Stale (guard_of p from))
    else (raising p from term, Fenced (all_written p v edges))

-- Vertex. A put with the flag over a row that is here is skipped; else the row is written, or all tags of the vertex are
-- removed. An op on edges and a read are no change of a vertex: they change nothing.
abbrev pub tag_put : Part → CallId → TagKey → List Val → Bool → Part × Applied
tag_put p id key row absent =
    if absent && contains_key p.tags key then (keeping p id kept.Skipped, Skipped)
    else (record (keeping p id kept.Fine) { tags = insert p.tags key row }, Finished id)

-- all tags of the vertex are removed
abbrev pub vertex_gone : Part → CallId → Vid → Part × Applied
vertex_gone p id v = (record (keeping p id kept.Fine) { tags = retain_keys p.tags (λ key. not (eq_by_cmp vid_cmp v key.vid)) }, Finished id)

-- what an op makes of its vertex
abbrev pub vertex_written : Part → CallId → Op → Part × Applied
vertex_written p id (PutVertex v tag row absent) = tag_put p id (record { vid = v; tag = tag }) row absent
vertex_written p id (DelVertex v) = vertex_gone p id v
vertex_written p id other = (p, Nothing)

-- The table: what an entry at this index leaves, and its answer. A read isn't decided, and would change nothing.
abbrev pub applied : ℕ → ℕ → PartEntry → Part → Part × Applied
applied parts index (Prime id list absent) p = primed parts p index id list absent
applied parts index (Local v) p = localized p v
applied parts index (Double v) p = doubled p v
applied parts index (Close v) p = closed p v
applied parts index (Abort v) p = aborted p v
applied parts index (Remote from term v list) p = remoted p from term v list
applied parts index (Fence from term v edges) p = fenced p from term v edges
applied parts index (Vertex id op) p = where_new p id (vertex_written p id op)
applied parts index (Read id query) p = (p, Nothing)

-- whether an entry writes at least one in-half
abbrev pub writes : PartEntry → Part → Bool
writes (Remote from term v list) p = not (is_stale p from term) && list_any (is_fresh p v) list
writes other p = false
