-- What a disk of either kind tells: that of its kind.
use Rattle.std.specs.Prelude.{◌≡◌, ◌≤◌, ◌<◌, ◌^◌, ℕ, List, length, Option, Some, None}
use Rattle.std.proofs.lemmas.Option.{none-some}
use Rattle.disk_model.specs.Files.{file_faults}
use Rattle.disk_model.specs.Memory.{faults_of, steps_of, reads_of, LeftOf, clock_of, SinceOf, calls_room, bytes_room}
use Rattle.disk_model.specs.ReplayLaws.{shown_is_image, shown_fits, counts_left, only_left}
use Rattle.disk_model.specs.declared.host_disk.HostDisk.{HostDisk}
use Rattle.disk_model.specs.declared.host_disk.HostDisk.TheVariants.{Memory, File}

-- how many faults the disk had
abbrev pub host_faults : {F : Type 0} → HostDisk F → ℕ
host_faults (Memory d) = faults_of d
host_faults (File d) = file_faults d

-- what the disk tells that it reads; a real file tells nothing
abbrev pub host_reads : {F : Type 0} → HostDisk F → Option (List ℕ)
host_reads (Memory d) = reads_of d
host_reads (File d) = None

-- what a crash may leave; of a real file nothing is told
abbrev pub HostLeft : {F : Type 0} → HostDisk F → List ℕ → Type 0
HostLeft (Memory d) image = LeftOf d image
HostLeft (File d) image = Unit {0}

-- the clock of the disk; a real file has none
abbrev pub host_clock : {F : Type 0} → HostDisk F → ℕ
host_clock (Memory d) = clock_of d
host_clock (File d) = 0

-- what a crash since a moment might have left; of a real file nothing is told
abbrev pub HostSince : {F : Type 0} → HostDisk F → ℕ → List ℕ → Type 0
HostSince (Memory d) t image = SinceOf d t image
HostSince (File d) t image = Unit {0}

-- how many calls there is room for
abbrev pub host_calls : {F : Type 0} → HostDisk F → ℕ
host_calls (Memory d) = calls_room d
host_calls (File d) = 2 ^ 64

-- how many bytes there is room for
abbrev pub host_bytes : {F : Type 0} → HostDisk F → ℕ
host_bytes (Memory d) = bytes_room d
host_bytes (File d) = 2 ^ 64

-- what a disk reads, a crash may leave
pub host_is_image : {F : Type 0} (disk : HostDisk F) (file : List ℕ) → host_reads disk ≡ Some file → HostLeft disk file
host_is_image (Memory d) file told = shown_is_image d.first d.bytes.items file (steps_of d) d.replays told
host_is_image (File d) file told = tt

-- what a disk tells has a length of 64 bits
pub host_fits : {F : Type 0} (disk : HostDisk F) (file : List ℕ) → host_reads disk ≡ Some file → length file < 2 ^ 64
host_fits (Memory d) file told = shown_fits d.bytes.items file d.small told
host_fits (File d) file told = absurd (none-some file told)

-- what a crash now may leave, a crash since any earlier moment might have left
pub host_counts : {F : Type 0} (disk : HostDisk F) (t : ℕ) (image : List ℕ) → t ≤ host_clock disk → HostLeft disk image → HostSince disk t image
host_counts (Memory d) t image le left = counts_left d.first t (steps_of d) image left
host_counts (File d) t image le left = tt

-- what a crash since now might have left, a crash may leave
pub host_only : {F : Type 0} (disk : HostDisk F) (image : List ℕ) → HostSince disk (host_clock disk) image → HostLeft disk image
host_only (Memory d) image left = only_left d.first (steps_of d) image left
host_only (File d) image left = tt
