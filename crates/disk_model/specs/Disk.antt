-- What the calls of a disk do to its file, and what a crash may leave of it. `Some` bytes are told, and `None` tells
-- nothing. What is told stays told.
use Rattle.std.specs.Prelude.{◌<◌, ◌≡◌, ◌⊎◌, ℕ, ◌+◌, ◌≤◌, max, List, ◌++◌, length, take, drop, Option, Some, None, Result, OnOk, OnErr}
use Rattle.outside_io.specs.declared.failed.Failed.{Failed}

-- a file with these bytes written over it from this place on
abbrev pub written_over : ℕ → List ℕ → List ℕ → List ℕ
written_over at bytes file = take at file ++ (bytes ++ drop (at + length bytes) file)

-- a write of n bytes that was done whole, in part or not at all: any bytes in its range and past the old end, the
-- same elsewhere
pub record Torn (at n : ℕ) (old new : List ℕ) : Type 0 where
  pub before : take at new ≡ take at old
  pub behind : drop (at + n) new ≡ drop (at + n) old
  pub no_shorter : length old ≤ length new
  pub no_longer : length new ≤ max (length old) (at + n)

-- a cut that was done whole, in part or not at all: any bytes behind its length, the same before
pub record CutShort (len : ℕ) (old new : List ℕ) : Type 0 where
  pub before : take len new ≡ take len old
  pub no_longer : length new ≤ length old

-- what is told went on by this step
abbrev pub Told : (List ℕ → List ℕ → Type 0) → Option (List ℕ) → Option (List ℕ) → Type 0
Told step None new = new ≡ None
Told step (Some old) new = (file : List ℕ) × (new ≡ Some file) × step old file

-- each new image is an old image after this step
abbrev pub Follows : (List ℕ → List ℕ → Type 0) → (List ℕ → Type 0) → (List ℕ → Type 0) → Type 0
Follows step old new = (c : List ℕ) → new c → (d : List ℕ) × old d × step d c

-- the images are the same
pub record SameImages (old new : List ℕ → Type 0) : Type 0 where
  pub no_other : (c : List ℕ) → new c → old c
  pub each : (c : List ℕ) → old c → new c

-- a crash leaves this file and no other
abbrev pub Only : List ℕ → (List ℕ → Type 0) → Type 0
Only file images = (c : List ℕ) → images c → c ≡ file

-- Time goes on: a crash since t might have left what it might have left before, or what it may leave now.
pub record Elapses (before now : ℕ) (past since : ℕ → List ℕ → Type 0) (may_leave : List ℕ → Type 0) : Type 0 where
  pub later : before ≤ now
  pub nothing_else : (t : ℕ) (c : List ℕ) → t ≤ before → since t c → past t c ⊎ may_leave c
  pub keeps : (t : ℕ) (c : List ℕ) → t ≤ before → past t c → since t c

-- A crash at any moment since `old` leaves a file that has P.
pub record LeavesOnly {D : Type 0} (clock : D → ℕ) (left_since : D → ℕ → List ℕ → Type 0) (old new : D) (P : List ℕ → Type 0) : Type 0 where
  pub later : clock old ≤ clock new
  pub each : (c : List ℕ) → left_since new (clock old) c → P c
  -- for a run that began earlier
  pub earlier : (t : ℕ) (c : List ℕ) → t ≤ clock old → left_since new t c → left_since old t c ⊎ P c

-- the count of faults rose exactly where the call failed
pub record Counts {T : Type 0} (old new : ℕ) (result : Result T Failed) : Type 0 where
  pub steady : OnOk result (new ≡ old)
  pub risen : OnErr result (old < new)
