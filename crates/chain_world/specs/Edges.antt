-- What the parts have of an edge is what the chains on it gave: the last one that wrote, and the last one that was shown.
use Rattle.std.specs.Prelude.{◌≡◌, ◌⊎◌, ℕ, ◌≤◌, Option, None, Some, Bool, true, false, if◌then◌else◌, List}
use Rattle.std.specs.FinMap.{get}
use Rattle.graph_model.specs.Contents.{row_of}
use Rattle.graph_model.specs.Keys.{edge_cmp, in_key}
use Rattle.graph_model.specs.declared.edge_id.EdgeId.{EdgeId}
use Rattle.graph_model.specs.declared.half.Half.{Half}
use Rattle.graph_model.specs.declared.val.Val.{Val}
use Rattle.part_keys.specs.declared.in_half.InHalf.{InHalf}
use Rattle.maps.specs.Lists.{at_key}
use Rattle.part_keys.specs.Routing.{part_of}
use Rattle.part_rules.specs.FoldLaws.{by}
use Rattle.part_rules.specs.Part.{Part, chain_on}
use Rattle.part_keys.specs.declared.vid_kind.VidKind.{VidKind}
use Rattle.chain_world.specs.Course.{Fate, Doubled, Settled, Closed, Course, Courses, stands, has_edge}
use Rattle.chain_world.specs.declared.event.ChainEvent.{ChainEvent}
use Rattle.chain_world.specs.Ledger.{Ledger, machine_of}
use Rattle.chain_world.specs.Founded.{AreFounded, AreKnown}
use Rattle.chain_world.specs.World.{run}

-- the out-halves are written
abbrev pub is_shown : Fate → Bool
is_shown Doubled = true
is_shown Settled = true
is_shown Closed = true
is_shown other = false

-- a chain has written its in-halves; its out-halves
abbrev pub gives_in : Course → Bool
gives_in c = c.wrote

abbrev pub gives_out : Course → Bool
gives_out c = is_shown c.fate

-- the half that a chain gives an edge, if it gives halves and is on the edge
abbrev pub given : (Course → Bool) → EdgeId → Option Course → Option Half
given gives e None = None
given gives e (Some c) = if gives c then at_key edge_cmp e c.list else None

-- of the chains of part p that give the edge a half, chain v is the last, and this is its half
pub record IsLast (k : Courses) (gives : Course → Bool) (e : EdgeId) (p v : ℕ) (half : Half) : Type 0 where
  pub its : given gives e (k p v) ≡ Some half
  pub last : (w : ℕ) (other : Half) → given gives e (k p w) ≡ Some other → w ≤ v

pub record HasLast (k : Courses) (gives : Course → Bool) (e : EdgeId) (p : ℕ) : Type 0 where
  pub number : ℕ
  pub half : Half
  pub is_last : IsLast k gives e p number half

-- none gives it one
abbrev pub IsUngiven : Courses → (Course → Bool) → EdgeId → ℕ → Type 0
IsUngiven k gives e p = (w : ℕ) → given gives e (k p w) ≡ None

pub record AreLast (parts : ℕ) (machine : ℕ → Part) (k : Courses) : Type 0 where
  -- the chain that stands on an edge is the last one on it
  pub latest : (p v w : ℕ) (c d : Course) → k p v ≡ Some c → stands c.fate ≡ true → k p w ≡ Some d → (e : EdgeId) → has_edge c.list e ≡ true → has_edge d.list e ≡ true → w ≤ v
  -- In-halves. An in-half, with its number, is that of the last chain on the edge that wrote; there is none where none wrote
  pub inn : (e : EdgeId) (v : ℕ) (half : Half) → IsLast k gives_in e (part_of parts e.src) v half → get (machine (part_of parts e.dst)).inn (in_key e) ≡ Some (by v half)
  pub no_inn : (e : EdgeId) → IsUngiven k gives_in e (part_of parts e.src) → get (machine (part_of parts e.dst)).inn (in_key e) ≡ None
  -- Out-halves. An out-half is that of the last chain on the edge that was shown; absent where none was
  pub out : (e : EdgeId) (v : ℕ) (half : Half) → IsLast k gives_out e (part_of parts e.src) v half → get (machine (part_of parts e.src)).out e ≡ row_of half
  pub no_out : (e : EdgeId) → IsUngiven k gives_out e (part_of parts e.src) → get (machine (part_of parts e.src)).out e ≡ None

-- the row that a part's in-half has
abbrev pub row_at : Option InHalf → Option (List Val)
row_at None = None
row_at (Some kept) = row_of kept.half

-- Equal when none stands: on an edge without a standing chain both halves are the same
abbrev pub AreEqualHalves : ℕ → (ℕ → Part) → Type 0
AreEqualHalves parts machine = (e : EdgeId) → chain_on (machine (part_of parts e.src)) e ≡ None → get (machine (part_of parts e.src)).out e ≡ row_at (get (machine (part_of parts e.dst)).inn (in_key e))

-- There is a last chain that gave an edge a half, or none did.
abbrev pub GivenOrNot : Courses → Type 0
GivenOrNot k = (gives : Course → Bool) (e : EdgeId) (p : ℕ) → HasLast k gives e p ⊎ IsUngiven k gives e p

-- In each run the chains are what the decided lists say, all that began, and each half is the last chain's that gave one.
pub record HaveGiven (parts : ℕ) (l : Ledger) : Type 0 where
  pub courses : Courses
  pub founded : AreFounded parts l.decided courses
  pub known : AreKnown parts l.decided courses
  pub given : GivenOrNot courses
  pub last : AreLast parts (machine_of parts l) courses

abbrev pub LastChainGives : Type 0
LastChainGives = (ids : VidKind) (parts : ℕ) (events : List ChainEvent) → HaveGiven parts (run ids parts events).ledger

-- In each run both halves of an edge without a standing chain are the same.
abbrev pub EqualWhenNoneStands : Type 0
EqualWhenNoneStands = (ids : VidKind) (parts : ℕ) (events : List ChainEvent) → AreEqualHalves parts (machine_of parts (run ids parts events).ledger)
