-- What a rack of either kind tells: that of its kind.
use Rattle.std.specs.Prelude.{ℕ, List, Option, None}
use Rattle.disk_model.specs.Files.{folder_faults, folder_back, folder_rooms}
use Rattle.disk_model.specs.Kept.{rack_faults, rack_back, kept_files, rooms_of}
use Rattle.disk_model.specs.declared.rack.DiskName.{DiskName}
use Rattle.disk_model.specs.declared.host_rack.HostRack.{HostRack}
use Rattle.disk_model.specs.declared.host_rack.HostRack.TheVariants.{Memory, File}

-- the faults of its own
abbrev pub host_rack_faults : {R : Type 0} → HostRack R → ℕ
host_rack_faults (Memory rack) = rack_faults rack
host_rack_faults (File rack) = folder_faults rack

-- the faults of the disks that it took back
abbrev pub host_rack_back : {R : Type 0} → HostRack R → ℕ
host_rack_back (Memory rack) = rack_back rack
host_rack_back (File rack) = folder_back rack

-- what each kept disk reads; real files aren't told
abbrev pub host_rack_kept : {R : Type 0} → HostRack R → Option (DiskName → Option (List ℕ))
host_rack_kept (Memory rack) = kept_files rack
host_rack_kept (File rack) = None

-- how many disks there is room to keep
abbrev pub host_rack_rooms : {R : Type 0} → HostRack R → ℕ
host_rack_rooms (Memory rack) = rooms_of rack
host_rack_rooms (File rack) = folder_rooms rack
