-- The file of a replica.
use Rattle.std.specs.Prelude.{◌≡◌, ◌⊎◌, ℕ, List, Ok, Err}
use Rattle.wal_disk.specs.File.{IsFile, IsBroken}
use Rattle.replica_file.specs.Durable.{Durable}
use Rattle.replica_file.specs.Grammar.{Allowed, file_version}
use Rattle.replica_file.specs.Folded.{folded}

-- the file is one of this replica, and what is durable in it is the fold of its records
pub record HasState (allowed : Allowed) (d : Durable) (file : List ℕ) : Type 0 where
  pub bodies : List (List ℕ)
  pub records : IsFile file_version bodies file
  pub fold : folded allowed bodies ≡ Ok d

-- the file has another version, so its magic doesn't fit
pub record HasOtherVersion (file : List ℕ) (at : ℕ) : Type 0 where
  pub bodies : List (List ℕ)
  pub records : IsFile 1 bodies file
  pub place : at ≡ 0

-- a body of the file is none of this replica, and this is the place of the first field that doesn't fit
pub record HasMisfit (allowed : Allowed) (file : List ℕ) (at : ℕ) : Type 0 where
  pub bodies : List (List ℕ)
  pub records : IsFile file_version bodies file
  pub fold : folded allowed bodies ≡ Err at

-- The file is none of this replica: it is no part file, or one of another version, or one of its bodies is none. The frames of
-- all records are read before the first body is.
abbrev pub IsBadFile : Allowed → List ℕ → ℕ → Type 0
IsBadFile allowed file at = IsBroken file at ⊎ (HasOtherVersion file at ⊎ HasMisfit allowed file at)
