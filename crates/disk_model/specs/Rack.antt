-- A rack of disks: the files that it keeps by name, and why it refuses.
use Rattle.std.specs.Prelude.{◌≡◌, ◌≢◌, ◌<◌, ℕ, List, [], Option, Some, None, IfSome}
use Rattle.disk_model.specs.Disk.{Only}
use Rattle.disk_model.specs.declared.rack.DiskName.{DiskName}
use Rattle.disk_model.specs.declared.rack.RackRefused.{RackRefused}
use Rattle.disk_model.specs.declared.rack.RackRefused.TheVariants as why

-- the map of kept files goes on to have this file at this name, and the others as they were
abbrev pub KeepsAt : DiskName → Option (List ℕ) → Option (DiskName → Option (List ℕ)) → Option (DiskName → Option (List ℕ)) → Type 0
KeepsAt name file None new = new ≡ None
KeepsAt name file (Some old) new = (map : DiskName → Option (List ℕ)) × (new ≡ Some map) × (map name ≡ file) × ((other : DiskName) → other ≢ name → map other ≡ old other)

-- the file, where it is told, is empty and on the disk
abbrev pub IsNew : Option (List ℕ) → (List ℕ → Type 0) → Type 0
IsNew told may_leave = IfSome told (λ file. (file ≡ []) × Only file may_leave)

-- the file, where it is told, is one that a crash may have left, and it is on the disk
abbrev pub IsCrashed : Option (List ℕ) → (List ℕ → Type 0) → (List ℕ → Type 0) → Type 0
IsCrashed told left may_leave = IfSome told (λ file. left file × Only file may_leave)

-- the rack's count of faults rose exactly at a fault
abbrev pub HasRackCause : ℕ → ℕ → RackRefused → Type 0
HasRackCause old new why.Fault = old < new
HasRackCause old new why.NoMemory = new ≡ old
