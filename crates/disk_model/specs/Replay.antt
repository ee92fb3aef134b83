-- What a disk in memory reads, and what a crash of it may leave, by the calls that were made of it.
use Rattle.std.specs.Prelude.{◌≡◌, ◌⊎◌, ℕ, ◌+◌, ◌≤◌, List, [], ◌∷◌, length, take, drop, Bool, true, false, nat_le, if◌then◌else◌}
use Rattle.disk_model.specs.Disk.{written_over, Torn, CutShort}
use Rattle.disk_model.specs.declared.call.Call.{Call}
use Rattle.disk_model.specs.declared.call.Call.TheVariants.{Write, Cut, Sync}
use Rattle.disk_model.specs.declared.call.Made.{Made}

-- how many bytes a call moves
abbrev pub size_of : Call → ℕ
size_of (Write at n) = n
size_of (Cut len) = 0
size_of Sync = 0

-- how many bytes these calls move
abbrev pub moved : List Made → ℕ
moved [] = 0
moved (made ∷ rest) = size_of made.call + moved rest

-- calls with their bytes, the newest first, in front of those that were made before
abbrev pub history_on : List (Made × List ℕ) → List Made → List ℕ → List (Made × List ℕ)
history_on before [] stored = before
history_on before (made ∷ rest) stored = history_on ((made, take (size_of made.call) stored) ∷ before) rest (drop (size_of made.call) stored)

-- all calls with their bytes, the newest first
abbrev pub history : List Made → List ℕ → List (Made × List ℕ)
history calls stored = history_on [] calls stored

-- what a read gives after a call that was done; a write past the end does nothing
abbrev pub done : Call → List ℕ → List ℕ → List ℕ
done (Write at n) bytes file = if nat_le at (length file) then written_over at bytes file else file
done (Cut len) bytes file = take len file
done Sync bytes file = file

-- what a read gives after these calls; a call that failed changes no read
abbrev pub reads_after : List ℕ → List (Made × List ℕ) → List ℕ
reads_after first [] = first
reads_after first (step ∷ older) = if step.0.ok then done step.0.call step.1 (reads_after first older) else reads_after first older

-- what was synced after one more call
abbrev pub synced_by : Call → Bool → List ℕ → List ℕ → List ℕ
synced_by (Write at n) ok file synced = synced
synced_by (Cut len) ok file synced = synced
synced_by Sync true file synced = file
synced_by Sync false file synced = synced

-- what was synced after these calls
abbrev pub synced_after : List ℕ → List (Made × List ℕ) → List ℕ
synced_after first [] = first
synced_after first (step ∷ older) = synced_by step.0.call step.0.ok (reads_after first older) (synced_after first older)

-- what a crash may leave after one more call; a write or a cut that failed is one that an image may have
abbrev pub LeftBy : Call → Bool → List ℕ → List ℕ → (List ℕ → Type 0) → List ℕ → Type 0
LeftBy (Write at n) ok bytes file left c = (d : List ℕ) × left d × Torn at (length bytes) d c
LeftBy (Cut len) ok bytes file left c = (d : List ℕ) × left d × CutShort len d c
LeftBy Sync true bytes file left c = c ≡ file
LeftBy Sync false bytes file left c = left c

-- what a crash may leave after these calls
abbrev pub Left : List ℕ → List (Made × List ℕ) → List ℕ → Type 0
Left first [] c = c ≡ first
Left first (step ∷ older) c = LeftBy step.0.call step.0.ok step.1 (reads_after first older) (Left first older) c

-- what a crash might have left since the first t of these calls were made
abbrev pub LeftSince : List ℕ → ℕ → List (Made × List ℕ) → List ℕ → Type 0
LeftSince first t [] c = c ≡ first
LeftSince first t (step ∷ older) c = Left first (step ∷ older) c ⊎ ((t ≤ length older) × LeftSince first t older c)
