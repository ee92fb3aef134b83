-- The file of a replica on a disk.
use Rattle.std.specs.Prelude.{◌≡◌, ℕ, List, [], ◌∷◌, Option, None, Some, Ok}
use Rattle.raft_log.specs.declared.config.Config.{Config}
use Rattle.raft_log.specs.declared.entry.Item.TheVariants.{Members}
use Rattle.raft_log.specs.declared.record.Record.{Record}
use Rattle.wal_disk.specs.Sound.{IsSound}
use Rattle.replica_file.specs.Durable.{Durable, kept}
use Rattle.replica_file.specs.Grammar.{Allowed, file_version}
use Rattle.replica_file.specs.Folded.{blank, folded}
use Rattle.replica_file.specs.File.{IsBadFile}

-- Where the disk tells its file, that has records that leave this state, all of it is on the disk, and the next record can be
-- appended.
pub record IsKept {D : Type 0} (reads : D → Option (List ℕ)) (may_leave : D → List ℕ → Type 0) (allowed : Allowed) (d : Durable) (wal : D × ℕ) : Type 0 where
  pub bodies : List (List ℕ)
  pub sound : IsSound reads may_leave file_version bodies wal
  pub fold : folded allowed bodies ≡ Ok d

-- the record with which a group's first configuration is made durable
abbrev pub first_record : Config → Record
first_record first = record { term = 0; vote = 0; keep = 0; entries = record { term = 0; item = Members first } ∷ [] }

-- what is durable of a replica that was created: the first configuration, or nothing
abbrev pub first_of : Option Config → Option Record
first_of None = None
first_of (Some first) = Some (first_record first)

abbrev pub founded : Option Config → Durable
founded first = kept blank (first_of first)

-- where the disk tells its file, that is none of this replica, at this place
abbrev pub IsBadIn : Allowed → Option (List ℕ) → ℕ → Type 0
IsBadIn allowed told at = (file : List ℕ) → told ≡ Some file → IsBadFile allowed file at
