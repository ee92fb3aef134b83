-- When records may be appended to a part file.
use Rattle.std.specs.Prelude.{◌≡◌, ℕ, List, length, Option, Some}
use Rattle.disk_model.specs.Disk.{Only}
use Rattle.wal_disk.specs.File.{IsFile, IsBroken, front}

-- the file is of this version and has these records, with its closed gate at this place, and all of it is on the disk
pub record IsSettled (may_leave : List ℕ → Type 0) (version : ℕ) (bodies : List (List ℕ)) (gate : ℕ) (file : List ℕ) : Type 0 where
  pub records : IsFile version bodies file
  pub place : gate ≡ length (front version bodies)
  pub durable : Only file may_leave

-- A file of records, seen as its disk and its gate: where the disk tells its file, that is settled with these records.
abbrev pub IsSound : {D : Type 0} (reads : D → Option (List ℕ)) (may_leave : D → List ℕ → Type 0) → ℕ → List (List ℕ) → D × ℕ → Type 0
IsSound reads may_leave version bodies wal = (file : List ℕ) → reads wal.0 ≡ Some file → IsSettled (may_leave wal.0) version bodies wal.1 file

-- where the disk tells its file, that is outside the grammar at this place
abbrev pub IsBadIn : Option (List ℕ) → ℕ → Type 0
IsBadIn told at = (file : List ℕ) → told ≡ Some file → IsBroken file at
