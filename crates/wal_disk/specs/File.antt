-- The part file: the letters `NBW`, the digit of its version, and a gate byte; behind an open gate come the length of a
-- body in 4 bytes, the highest first, the body, and the next gate byte. A gate byte other than the open one is closed,
-- and what stands behind a closed gate doesn't count.
use Rattle.std.specs.Prelude.{◌≡◌, ◌≢◌, ◌⊎◌, ◌<◌, ◌≤◌, ◌+◌, ℕ, List, [], ◌∷◌, ◌++◌, length, take, drop}
use Rattle.std.specs.Int.{w32, from_be_bytes}
use Rattle.std.specs.List.{flat_map, AllByRecursion}
use Rattle.byte_fields.specs.Frames.{HasFrame, sized, open_gate}
use Rattle.byte_fields.specs.Versions.{IsVersion}

-- `NBW1` or `NBW2`
abbrev pub magic : ℕ → List ℕ
magic version = 0x4e ∷ 0x42 ∷ 0x57 ∷ (0x30 + version) ∷ []

-- a record behind its open gate
abbrev pub opened : List ℕ → List ℕ
opened body = open_gate ∷ sized body

-- the magic and the records of these bodies, up to the next gate
abbrev pub front : ℕ → List (List ℕ) → List ℕ
front version bodies = magic version ++ flat_map opened bodies

-- the file is one of the version and has the records of these bodies: behind them stands a gate that isn't open
pub record IsFile (version : ℕ) (bodies : List (List ℕ)) (file : List ℕ) : Type 0 where
  pub known : IsVersion version
  pub gate : ℕ
  pub rest : List ℕ
  pub closed : gate ≢ open_gate
  pub fit : AllByRecursion HasFrame bodies
  pub whole : file ≡ front version bodies ++ gate ∷ rest

-- the file has these records, with one more or without it
abbrev pub IsBeforeOrAfter : ℕ → List (List ℕ) → List ℕ → List ℕ → Type 0
IsBeforeOrAfter version bodies body file = IsFile version bodies file ⊎ IsFile version (bodies ++ body ∷ []) file

-- behind an open gate no whole body comes, and n is the place, counted from the gate, of the field that doesn't fit
abbrev pub IsCutBehind : List ℕ → ℕ → Type 0
IsCutBehind behind n = ((length behind < 4) × (n ≡ 1))
    ⊎ ((4 ≤ length behind) × (length (drop 4 behind) < from_be_bytes w32 (take 4 behind)) × (n ≡ 5))

-- no gate comes, or an open one and no whole body behind it
abbrev pub IsCutAt : List ℕ → ℕ → Type 0
IsCutAt rest n = ((rest ≡ []) × (n ≡ 0)) ⊎ ((behind : List ℕ) × (rest ≡ open_gate ∷ behind) × IsCutBehind behind n)

-- behind these records the grammar breaks at this place of the file
pub record BreaksBehind (version : ℕ) (bodies : List (List ℕ)) (file : List ℕ) (at : ℕ) : Type 0 where
  pub known : IsVersion version
  pub rest : List ℕ
  pub n : ℕ
  pub fit : AllByRecursion HasFrame bodies
  pub whole : file ≡ front version bodies ++ rest
  pub cut : IsCutAt rest n
  pub place : at ≡ length (front version bodies) + n

-- the file begins with no magic
abbrev pub HasNoMagic : List ℕ → Type 0
HasNoMagic file = (version : ℕ) → IsVersion version → take 4 file ≢ magic version

-- the file is outside the grammar at this place: the magic is wrong, or it breaks behind some records
abbrev pub IsBroken : List ℕ → ℕ → Type 0
IsBroken file at = (HasNoMagic file × (at ≡ 0)) ⊎ ((version : ℕ) × (bodies : List (List ℕ)) × BreaksBehind version bodies file at)
