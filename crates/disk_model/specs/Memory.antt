-- What a disk in memory reads and what a crash of it leaves, by the calls that it keeps.
use Rattle.std.specs.Prelude.{ℕ, ◌-◌, min, List, length, Option, Some, vec_len, vec_capacity}
use Rattle.disk_model.specs.Replay.{history, Left, LeftSince, synced_after}
use Rattle.disk_model.specs.Tears.{torn_after}
use Rattle.disk_model.specs.declared.pick.Pick.{Pick}
use Rattle.disk_model.specs.declared.pick.Pick.TheVariants.{Synced, Read, Torn}
use Rattle.disk_model.specs.declared.call.Made.{Made}
use Rattle.disk_model.specs.declared.mem_disk.MemDisk.{MemDisk}
use Rattle.disk_model.specs.declared.plan.Plan.{Plan}

-- the calls that were made of it, with their bytes, the newest first
abbrev pub steps_of : MemDisk → List (Made × List ℕ)
steps_of disk = history disk.calls.items disk.stored.items

-- the file that it began with
abbrev pub first_of : MemDisk → List ℕ
first_of disk = disk.first

-- the file now
abbrev pub file_of : MemDisk → List ℕ
file_of disk = disk.bytes.items

-- its writes, cuts and syncs, the oldest first
abbrev pub calls_of : MemDisk → List Made
calls_of disk = disk.calls.items

-- which of its calls fail
abbrev pub plan_of : MemDisk → Plan
plan_of disk = disk.plan

-- how many faults it had
abbrev pub faults_of : MemDisk → ℕ
faults_of disk = disk.faults.count

-- what a read gives
abbrev pub reads_of : MemDisk → Option (List ℕ)
reads_of disk = Some (file_of disk)

-- the images that a crash now may leave
abbrev pub LeftOf : MemDisk → List ℕ → Type 0
LeftOf disk image = Left disk.first (steps_of disk) image

-- the moment is the number of calls that are kept
abbrev pub clock_of : MemDisk → ℕ
clock_of disk = length (steps_of disk)

-- the images that a crash since that moment might have left
abbrev pub SinceOf : MemDisk → ℕ → List ℕ → Type 0
SinceOf disk t image = LeftSince disk.first t (steps_of disk) image

-- for how many calls there is room
abbrev pub calls_room : MemDisk → ℕ
calls_room disk = vec_capacity disk.calls - vec_len disk.calls

-- for how many written bytes there is room
abbrev pub bytes_room : MemDisk → ℕ
bytes_room disk = min (vec_capacity disk.stored - vec_len disk.stored) (min (vec_capacity disk.bytes - vec_len disk.bytes) (vec_capacity disk.synced - vec_len disk.bytes))

-- the image that was picked
abbrev pub picked : Pick → MemDisk → List ℕ
picked Synced disk = synced_after disk.first (steps_of disk)
picked Read disk = disk.bytes.items
picked (Torn tears) disk = torn_after disk.first (steps_of disk) tears
