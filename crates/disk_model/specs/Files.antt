-- What real files count.
use Rattle.std.specs.Prelude.{ℕ}
use Rattle.disk_model.specs.declared.file_disk.FileDisk.{FileDisk}
use Rattle.disk_model.specs.declared.file_rack.FileRack.{FileRack}

-- how many faults the file had
abbrev pub file_faults : {F : Type 0} → FileDisk F → ℕ
file_faults disk = disk.faults.count

-- how many of the rack's own calls failed
abbrev pub folder_faults : {R : Type 0} → FileRack R → ℕ
folder_faults rack = rack.faults.count

-- how many faults the files had that it took back
abbrev pub folder_back : {R : Type 0} → FileRack R → ℕ
folder_back rack = rack.back.count

-- how many files there is room to keep
abbrev pub folder_rooms : {R : Type 0} → FileRack R → ℕ
folder_rooms rack = rack.rooms
