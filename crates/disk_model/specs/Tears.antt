-- What a torn pick leaves of a disk in memory: its last writes and cuts with the bytes that were picked for them.
use Rattle.std.specs.Prelude.{◌≡◌, ℕ, ◌-◌, List, [], ◌∷◌, ◌++◌, length, take, Bool, true, false, nat_le, if◌then◌else◌}
use Rattle.disk_model.specs.Disk.{written_over}
use Rattle.disk_model.specs.Replay.{reads_after, synced_after, Left}
use Rattle.disk_model.specs.declared.call.Call.{Call}
use Rattle.disk_model.specs.declared.call.Call.TheVariants.{Write, Cut, Sync}
use Rattle.disk_model.specs.declared.call.Made.{Made}

-- the file after a call that left these bytes: a write at most so many in its range, a cut at most those it was to cut
abbrev pub torn_by : Call → ℕ → List ℕ → List ℕ → List ℕ
torn_by (Write at n) most bytes file = if nat_le at (length file) then written_over at (take most bytes) file else file
torn_by (Cut len) most bytes file = take len file ++ take (length file - len) bytes
torn_by Sync most bytes file = file

-- one more call: a write or a cut takes the first of the tears, a sync that was done makes the file what was read
abbrev pub torn_on : Call → Bool → ℕ → List ℕ → (List (List ℕ) → List ℕ) → List (List ℕ) → List ℕ
torn_on (Write at n) ok most read before [] = before []
torn_on (Write at n) ok most read before (bytes ∷ rest) = torn_by (Write at n) most bytes (before rest)
torn_on (Cut len) ok most read before [] = before []
torn_on (Cut len) ok most read before (bytes ∷ rest) = torn_by (Cut len) most bytes (before rest)
torn_on Sync true most read before tears = read
torn_on Sync false most read before tears = before tears

-- what was synced, and on it each write and cut since then with the bytes that were picked for it, the first for the
-- newest; one without a pick wasn't done
abbrev pub torn_after : List ℕ → List (Made × List ℕ) → List (List ℕ) → List ℕ
torn_after first [] tears = first
torn_after first (step ∷ older) tears = torn_on step.0.call step.0.ok (length step.1) (reads_after first older) (torn_after first older) tears

-- where no tear is picked, what was synced is left
abbrev pub NoTearIsSynced : Type 0
NoTearIsSynced = (first : List ℕ) (steps : List (Made × List ℕ)) → torn_after first steps [] ≡ synced_after first steps

-- each image that a crash may leave is left by some tears
abbrev pub EachImageIsTorn : Type 0
EachImageIsTorn = (first image : List ℕ) (steps : List (Made × List ℕ)) → Left first steps image → (tears : List (List ℕ)) × (image ≡ torn_after first steps tears)
