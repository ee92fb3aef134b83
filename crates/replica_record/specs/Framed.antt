-- The frame of a step's record, and the room for it on a disk.
use Rattle.std.specs.Prelude.{◌≤◌, ◌+◌, ℕ, List, length, Option, None, Some}
use Rattle.byte_fields.specs.Frames.{IsFrame}
use Rattle.raft_log.specs.declared.record.Record.{Record}
use Rattle.wal_frames.specs.Spelling.{body}
use Rattle.replica_file.specs.Grammar.{Allowed, IsRecord}
use Rattle.replica_file.specs.Laws.{MayStand}

-- the frame of a record of the replica, for which there is room: four calls, and the frame with one more gate
pub record HasFrame (allowed : Allowed) (calls bytes : ℕ) (r : Record) (frame : List ℕ) : Type 0 where
  pub framed : IsFrame (body r) frame
  pub own : IsRecord allowed r
  pub calls_fit : 4 ≤ calls
  pub bytes_fit : length frame + 1 ≤ bytes

-- a step with a record has its frame, and one without has none
abbrev pub IsFramed : Allowed → ℕ → ℕ → Option Record → Option (List ℕ) → Type 0
IsFramed allowed calls bytes None None = Unit {0}
IsFramed allowed calls bytes None (Some frame) = ⊥
IsFramed allowed calls bytes (Some r) None = ⊥
IsFramed allowed calls bytes (Some r) (Some frame) = HasFrame allowed calls bytes r frame

-- what may be made durable: a record whose entries may all stand in the file
abbrev pub MayBeKept : Allowed → Option Record → Type 0
MayBeKept allowed None = Unit {0}
MayBeKept allowed (Some r) = MayStand allowed r.entries
