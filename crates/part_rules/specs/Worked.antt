-- Chains of two edges worked by hand, as tests of the definitions. With two parts, vertex 1 is in part 2, and the
-- vertices 2 and 4 are in part 1.
use Rattle.std.specs.Prelude.{◌≡◌, ℕ, List, [], ◌∷◌, pos, Some, Bool, true, false}
use Rattle.std.specs.FinMap.{empty, insert, remove}
use Rattle.graph_model.specs.Keys.{in_key}
use Rattle.graph_model.specs.declared.val.Val.{Val}
use Rattle.graph_model.specs.declared.val.Val.TheVariants.{Int}
use Rattle.graph_model.specs.declared.vid.Vid.TheVariants.{Num}
use Rattle.graph_model.specs.declared.half.Half.{Half}
use Rattle.graph_model.specs.declared.half.Half.TheVariants.{Absent, Here}
use Rattle.graph_model.specs.declared.edge_id.EdgeId.{EdgeId}
use Rattle.graph_model.specs.declared.tag_key.TagKey.{TagKey}
use Rattle.graph_model.specs.declared.call_id.CallId.{CallId}
use Rattle.graph_model.specs.declared.found.Found.{Found}
use Rattle.graph_model.specs.declared.op.Op.TheVariants.{PutVertex, DelVertex}
use Rattle.graph_model.specs.declared.query.Query.TheVariants as asked
use Rattle.part_keys.specs.declared.chain.PrimeRec.{PrimeRec}
use Rattle.part_keys.specs.declared.entry.PartEntry.TheVariants.{Prime, Local, Double, Close, Abort, Remote, Fence, Vertex}
use Rattle.part_rules.specs.declared.kept.Kept.{Kept}
use Rattle.part_rules.specs.declared.kept.Outcome.{Outcome}
use Rattle.part_rules.specs.declared.kept.Outcome.TheVariants as kept
use Rattle.part_rules.specs.declared.applied.Applied.TheVariants.{Old, Again, Conflict, Skipped, Begun, Settled, Doubled, Closed, Aborted, Stale, Done, Fenced, Finished, Nothing}
use Rattle.part_rules.specs.Part.{Part, blank}
use Rattle.part_rules.specs.Machine.{applied, writes}
use Rattle.part_rules.specs.View.{view}

-- from vertex 1 to that one
abbrev pub edge_to : ℕ → EdgeId
edge_to n = record { src = Num (pos 1); etype = pos 1; rank = pos 0; dst = Num (pos n) }

abbrev pub row : ℕ → List Val
row n = Int (pos n) ∷ []

abbrev pub here : ℕ → Half
here n = Here (row n)

abbrev pub both : List (EdgeId × Half)
both = (edge_to 2, here 90) ∷ (edge_to 4, here 91) ∷ []

abbrev pub edges : List EdgeId
edges = edge_to 2 ∷ edge_to 4 ∷ []

abbrev pub call : ℕ → ℕ → CallId
call client number = record { client = client; number = number }

abbrev pub found : Bool → ℕ → ℕ → Found
found inward n value = record { edge = Some (edge_to n); inward = inward; row = row value }

-- what a client's last call has come to
abbrev pub last : ℕ → Outcome → Kept
last number outcome = record { number = number; outcome = outcome }

-- A call primes a chain of two edges ..
abbrev pub chain : PrimeRec
chain = record { v = 1; id = call 1 1; remote = 1; list = both; double = false }

abbrev pub begun : Part
begun = record blank { chains = insert empty 1 chain; clients = insert empty 1 (last 1 kept.Open) }

abbrev pub IsBegun : Type 0
IsBegun = applied 2 1 (Prime (call 1 1) both false) blank ≡ (begun, Begun 1)

-- .. asked again, it is answered so, and an older number is Old
abbrev pub IsAgain : Type 0
IsAgain = applied 2 2 (Prime (call 1 1) both false) begun ≡ (begun, Again kept.Open)

abbrev pub IsOld : Type 0
IsOld = applied 2 2 (Prime (call 1 0) both false) begun ≡ (begun, Old)

-- .. a Prime of another call on one of the edges conflicts
abbrev pub IsInConflict : Type 0
IsInConflict = applied 2 2 (Prime (call 2 7) ((edge_to 3, Absent) ∷ (edge_to 4, Absent) ∷ []) false) begun
    ≡ (record begun { clients = insert begun.clients 2 (last 7 (kept.Conflict (call 1 1))) }, Conflict (call 1 1))

-- .. a Local writes both out-halves and ends it, and then nothing stands
abbrev pub settled : Part
settled = record begun { out = insert (insert empty (edge_to 4) (row 91)) (edge_to 2) (row 90); chains = remove begun.chains 1; clients = insert begun.clients 1 (last 1 kept.Fine) }

abbrev pub IsSettled : Type 0
IsSettled = applied 2 2 (Local 1) begun ≡ (settled, Settled (call 1 1))

abbrev pub IsGone : Type 0
IsGone = applied 2 3 (Local 1) settled ≡ (settled, Nothing)

abbrev pub IsShown : Type 0
IsShown = view (asked.Out (Num (pos 1)) (pos 1 ∷ [])) settled ≡ found false 2 90 ∷ found false 4 91 ∷ []

-- .. or a Double writes them and leaves it standing; then neither a Local nor an Abort ends it, a Close does
abbrev pub doubled : Part
doubled = record begun { out = settled.out; chains = insert begun.chains 1 (record chain { double = true }); clients = insert begun.clients 1 (last 1 kept.Pending) }

abbrev pub IsDoubled : Type 0
IsDoubled = applied 2 2 (Double 1) begun ≡ (doubled, Doubled (call 1 1))

abbrev pub IsNoLocal : Type 0
IsNoLocal = applied 2 3 (Local 1) doubled ≡ (doubled, Nothing)

abbrev pub IsNoAbort : Type 0
IsNoAbort = applied 2 3 (Abort 1) doubled ≡ (doubled, Nothing)

abbrev pub IsClosed : Type 0
IsClosed = applied 2 3 (Close 1) doubled ≡ (record doubled { chains = remove doubled.chains 1; clients = insert doubled.clients 1 (last 1 kept.Fine) }, Closed (call 1 1))

-- .. or an Abort ends it, with nothing written
abbrev pub IsNoClose : Type 0
IsNoClose = applied 2 2 (Close 1) begun ≡ (begun, Nothing)

abbrev pub IsAborted : Type 0
IsAborted = applied 2 2 (Abort 1) begun ≡ (record begun { chains = remove begun.chains 1; clients = insert begun.clients 1 (last 1 kept.Cancelled) }, Aborted (call 1 1))

-- IF NOT EXISTS with one of the edges there: the chain takes the other alone; with both there the call is skipped
abbrev pub one_there : Part
one_there = record blank { out = insert empty (edge_to 2) (row 7) }

abbrev pub IsOneTaken : Type 0
IsOneTaken = applied 2 3 (Prime (call 1 1) both true) one_there
    ≡ (record one_there { chains = insert empty 3 (record { v = 3; id = call 1 1; remote = 1; list = (edge_to 4, here 91) ∷ []; double = false }); clients = begun.clients }, Begun 3)

abbrev pub both_there : Part
both_there = record blank { out = settled.out }

abbrev pub IsSkipped : Type 0
IsSkipped = applied 2 3 (Prime (call 1 1) both true) both_there ≡ (record both_there { clients = insert empty 1 (last 1 kept.Skipped) }, Skipped)

-- In the other part the Remote writes both in-halves ..
abbrev pub written : Part
written = record blank {
  inn = insert (insert empty (in_key (edge_to 4)) (record { v = 5; half = here 91 })) (in_key (edge_to 2)) (record { v = 5; half = here 90 });
  guards = insert empty 2 3;
}

abbrev pub IsRemoted : Type 0
IsRemoted = applied 2 1 (Remote 2 3 5 both) blank ≡ (written, Done)

abbrev pub IsShownThere : Type 0
IsShownThere = view (asked.In (Num (pos 4)) (pos 1 ∷ [])) written ≡ found true 4 91 ∷ []

-- .. once: again, or of an older chain, it writes nothing, and raises the guard
abbrev pub IsWriting : Type 0
IsWriting = writes (Remote 2 3 5 both) blank ≡ true

abbrev pub IsNotTwice : Type 0
IsNotTwice = writes (Remote 2 3 5 both) written ≡ false

abbrev pub IsLater : Type 0
IsLater = applied 2 2 (Remote 2 4 4 ((edge_to 4, Absent) ∷ [])) written ≡ (record written { guards = insert written.guards 2 4 }, Done)

-- .. a Fence tells whether it was there
abbrev pub IsFound : Type 0
IsFound = applied 2 2 (Fence 2 4 5 edges) written ≡ (record written { guards = insert written.guards 2 4 }, Fenced true)

abbrev pub fenced : Part
fenced = record blank { guards = insert empty 2 4 }

abbrev pub IsFenced : Type 0
IsFenced = applied 2 1 (Fence 2 4 5 edges) blank ≡ (fenced, Fenced false)

-- .. and behind the Fence a late Remote, of a lower term, is Stale, and so is a late Fence
abbrev pub IsLate : Type 0
IsLate = applied 2 2 (Remote 2 3 5 both) fenced ≡ (fenced, Stale 4)

abbrev pub IsLateFence : Type 0
IsLateFence = applied 2 2 (Fence 2 3 5 edges) fenced ≡ (fenced, Stale 4)

-- an in-half that was deleted keeps its number, and no query finds it
abbrev pub deleted : Part
deleted = record blank { inn = insert empty (in_key (edge_to 4)) (record { v = 6; half = Absent }) }

abbrev pub IsKeptGone : Type 0
IsKeptGone = (writes (Remote 2 3 5 ((edge_to 4, here 91) ∷ [])) deleted ≡ false) × (view (asked.In (Num (pos 4)) (pos 1 ∷ [])) deleted ≡ [])

-- A vertex is put, left as it is by IF NOT EXISTS, and removed
abbrev pub tag : TagKey
tag = record { vid = Num (pos 1); tag = 3 }

abbrev pub tagged : Part
tagged = record blank { tags = insert empty tag (row 7); clients = insert empty 1 (last 1 kept.Fine) }

abbrev pub IsTagged : Type 0
IsTagged = applied 2 1 (Vertex (call 1 1) (PutVertex (Num (pos 1)) 3 (row 7) true)) blank ≡ (tagged, Finished (call 1 1))

abbrev pub IsTagLeft : Type 0
IsTagLeft = applied 2 2 (Vertex (call 1 2) (PutVertex (Num (pos 1)) 3 (row 8) true)) tagged ≡ (record tagged { clients = insert tagged.clients 1 (last 2 kept.Skipped) }, Skipped)

abbrev pub IsUntagged : Type 0
IsUntagged = (applied 2 2 (Vertex (call 1 2) (DelVertex (Num (pos 1)))) tagged).1 ≡ Finished (call 1 2)
