-- What became of each chain. A chain is named (p, v): its source part, and the index of its Prime in that part's list.
-- This stands beside the ledger and is part of no definition of a run: each decided item changes it as `recorded` says.
use Rattle.std.specs.Prelude.{◌==◌, ◌&&◌, ℕ, List, Option, None, Some, Bool, true, false, if◌then◌else◌}
use Rattle.std.specs.FinMap.{get}
use Rattle.std.specs.Map.{keys_of}
use Rattle.maps.specs.Keys.{has_key}
use Rattle.graph_model.specs.Keys.{edge_cmp}
use Rattle.graph_model.specs.declared.call_id.CallId.{CallId}
use Rattle.graph_model.specs.declared.edge_id.EdgeId.{EdgeId}
use Rattle.graph_model.specs.declared.half.Half.{Half}
use Rattle.part_keys.specs.declared.chain.PrimeRec.{PrimeRec}
use Rattle.part_keys.specs.declared.proposal.Proposal.{Proposal}
use Rattle.part_keys.specs.declared.proposal.Proposal.TheVariants.{Made}
use Rattle.part_keys.specs.declared.entry.PartEntry.{PartEntry}
use Rattle.part_keys.specs.declared.entry.PartEntry.TheVariants.{Prime, Local, Double, Close, Abort, Remote}
use Rattle.part_rules.specs.declared.applied.Applied.{Applied}
use Rattle.part_rules.specs.declared.applied.Applied.TheVariants as told
use Rattle.part_rules.specs.Part.{Part}
use Rattle.chain_world.specs.Ledger.{Ledger, next_applied}

-- how far a chain is: its Prime stands; it stands and its out-halves are written; a Local or a Close ended it, all halves
-- written; an Abort of this term ended it, none written
pub data Fate : Type 0 where
  Primed : Fate
  Doubled : Fate
  Settled : Fate
  Closed : Fate
  Aborted : ℕ → Fate

-- a chain stands from its Prime until its end
abbrev pub stands : Fate → Bool
stands Primed = true
stands Doubled = true
stands other = false

-- it stands, and is shown
abbrev pub is_doubled : Fate → Bool
is_doubled Doubled = true
is_doubled other = false

-- it ended with all halves written
abbrev pub is_settled : Fate → Bool
is_settled Settled = true
is_settled Closed = true
is_settled other = false

-- it was given up
abbrev pub is_aborted : Fate → Bool
is_aborted (Aborted t) = true
is_aborted other = false

-- a chain that was begun: the call that it serves, its remote part, its edges with the halves that they are to have, how
-- far it is, and whether a Remote of it was taken, so that its in-halves are written
pub record Course : Type 0 where
  pub id : CallId
  pub remote : ℕ
  pub list : List (EdgeId × Half)
  pub fate : Fate
  pub wrote : Bool

-- of each chain, by source part and number
abbrev pub Courses : Type 0
Courses = ℕ → ℕ → Option Course

-- no chain was begun
abbrev pub no_courses : Courses
no_courses p v = None

-- whether an edge stands in a list, and so whether a chain is on it
abbrev pub has_edge : List (EdgeId × Half) → EdgeId → Bool
has_edge list e = has_key edge_cmp e (keys_of list)

-- the chain (p, v) is this now
abbrev pub with_course : Courses → ℕ → ℕ → Option Course → Courses
with_course k p v c q w = if (q == p) && (w == v) then c else k q w

-- a chain with another fate
abbrev pub with_fate : Fate → Option Course → Option Course
with_fate fate None = None
with_fate fate (Some c) = Some (record c { fate = fate })

-- a chain that wrote
abbrev pub with_wrote : Option Course → Option Course
with_wrote None = None
with_wrote (Some c) = Some (record c { wrote = true })

-- a chain as its Prime begins it
abbrev pub course_of : Option PrimeRec → Option Course
course_of None = None
course_of (Some chain) = Some (record { id = chain.id; remote = chain.remote; list = chain.list; fate = Primed; wrote = false })

-- a chain as its source part's machine keeps it, while it stands
abbrev pub prime_of : ℕ → Option Course → Option PrimeRec
prime_of v None = None
prime_of v (Some c) = if stands c.fate then Some (record { v = v; id = c.id; remote = c.remote; list = c.list; double = is_doubled c.fate }) else None

-- what an entry of part p, of this term, changes, by its answer; `behind` is the part's machine behind it
abbrev pub coursed : Courses → ℕ → ℕ → Part → PartEntry → Applied → Courses
coursed k p term behind (Prime id list absent) (told.Begun v) = with_course k p v (course_of (get behind.chains v))
coursed k p term behind (Local v) (told.Settled id) = with_course k p v (with_fate Settled (k p v))
coursed k p term behind (Double v) (told.Doubled id) = with_course k p v (with_fate Doubled (k p v))
coursed k p term behind (Close v) (told.Closed id) = with_course k p v (with_fate Closed (k p v))
coursed k p term behind (Abort v) (told.Aborted id) = with_course k p v (with_fate (Aborted term) (k p v))
coursed k p term behind (Remote from t v list) told.Done = with_course k from v (with_wrote (k from v))
coursed k p term behind entry answer = k

-- an item that is no entry changes none
abbrev pub item_coursed : Courses → ℕ → ℕ → Part → Proposal → Applied → Courses
item_coursed k p term behind (Made entry) answer = coursed k p term behind entry answer
item_coursed k p term behind x answer = k

-- what became of each chain behind the next item of part p
abbrev pub recorded : ℕ → Ledger → Courses → ℕ → ℕ × Proposal → Courses
recorded parts l k p d = item_coursed k p d.0 (next_applied parts l p d.1).0 d.1 (next_applied parts l p d.1).1
