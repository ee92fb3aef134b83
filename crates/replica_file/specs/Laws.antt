-- What the laws of a replica's file say.
use Rattle.std.specs.Prelude.{◌≡◌, ◌⊎◌, ℕ, true, List, map}
use Rattle.std.specs.List.{AllByRecursion}
use Rattle.raft_log.specs.declared.entry.Entry.{Entry}
use Rattle.raft_log.specs.declared.record.Record.{Record}
use Rattle.wal_frames.specs.Spelling.{body}
use Rattle.replica_file.specs.Durable.{Durable, kept_by}
use Rattle.replica_file.specs.Grammar.{Allowed, may_stand, IsRecord}
use Rattle.replica_file.specs.Folded.{blank, kept_in}
use Rattle.replica_file.specs.File.{HasState}

-- the bodies are those of records of the replica, and leave what these leave
pub record AreBodies (allowed : Allowed) (d : Durable) (bodies : List (List ℕ)) : Type 0 where
  pub records : List Record
  pub own : AllByRecursion (IsRecord allowed) records
  pub spelled : bodies ≡ map body records
  pub state : d ≡ kept_in blank records

-- a file with the state before, or with that which the record leaves of it
abbrev pub IsBeforeOrBehind : Allowed → Durable → Record → List ℕ → Type 0
IsBeforeOrBehind allowed before r file = HasState allowed before file ⊎ HasState allowed (kept_by before r) file

-- each of these entries may stand in the log
abbrev pub MayStand : Allowed → List Entry → Type 0
MayStand allowed entries = AllByRecursion (λ (e : Entry). may_stand allowed e ≡ true) entries
