-- Reading a body from left to right. The place of a misfit is the first byte of the first field that doesn't fit:
-- a count, where more peers than eight in all would follow it;
-- a peer, where it is 0, doesn't rise, or is among the voters already;
-- the item, where the body ends before the length that is given for it;
-- a field inside the item, where it doesn't fit within that length; the first byte that is left over within it;
-- the first byte that is left over behind the last entry.
use Rattle.std.specs.Prelude.{ℕ, ◌-◌, List, [], length, Result, Ok, Err, Option, Some, None, nat_lt, ◌==◌, if◌then◌else◌}
use Rattle.std.specs.List.{list_any}
use Rattle.byte_fields.specs.declared.misfit.Misfit.{Misfit}
use Rattle.byte_fields.specs.Reading.{◌>>=◌, misfit, byte_at, number_at, id_at, rising_at, many_at, whole, inside}
use Rattle.raft_log.specs.declared.config.Config.{Config}
use Rattle.raft_log.specs.declared.entry.Entry.{Entry}
use Rattle.raft_log.specs.declared.entry.Item.{Item}
use Rattle.raft_log.specs.declared.entry.Item.TheVariants.{NoOp, Members, Payload}
use Rattle.raft_log.specs.declared.record.Record.{Record}
use Rattle.wal_frames.specs.Kinds.{no_op_item, members_item, payload_item, most_peers}
use Rattle.wal_frames.specs.declared.refused.FrameRefused.{FrameRefused}
use Rattle.wal_frames.specs.declared.refused.FrameRefused.TheVariants as refusals

-- a peer above `low` that isn't among the others
unfoldable pub peer_at : List ℕ → ℕ → List ℕ → Result (ℕ × List ℕ) Misfit
peer_at others low bytes = id_at 4294967295 low bytes >>= λ id. if list_any (λ peer. peer == id.0) others then Err (misfit bytes) else Ok id

-- at most `room` peers behind their count, rising, none of them among the others
unfoldable pub peers_at : List ℕ → ℕ → List ℕ → Result (List ℕ × List ℕ) Misfit
peers_at others room bytes = byte_at bytes >>= λ count. if nat_lt room count.0 then Err (misfit bytes) else rising_at (peer_at others) count.0 0 count.1

-- voters, then learners, at most eight in all
unfoldable pub config_at : List ℕ → Result (Config × List ℕ) Misfit
config_at bytes = do
  voters ← peers_at [] most_peers bytes
  learners ← peers_at voters.0 (most_peers - length voters.0) voters.1
  Ok (record { voters = voters.0; learners = learners.0 }, learners.1)

-- all of the bytes of an item
unfoldable pub item_of : List ℕ → Result Item Misfit
item_of bytes = byte_at bytes >>= λ kind.
    if kind.0 == no_op_item then (if length kind.1 == 0 then Ok NoOp else Err (misfit kind.1))
    else if kind.0 == members_item then (whole config_at kind.1 >>= λ c. Ok (Members c))
    else if kind.0 == payload_item then Ok (Payload kind.1)
    else Err (misfit bytes)

-- term, length of the item, item
unfoldable pub entry_at : List ℕ → Result (Entry × List ℕ) Misfit
entry_at bytes = do
  term ← number_at 8 bytes
  len ← number_at 4 term.1
  item ← inside len.0 item_of len.1
  Ok (record { term = term.0; item = item.0 }, item.1)

-- the entries behind their count
unfoldable pub entries_at : List ℕ → Result (List Entry × List ℕ) Misfit
entries_at bytes = number_at 4 bytes >>= λ count. many_at entry_at count.0 count.1

-- term, vote, keep, entries
unfoldable pub body_at : List ℕ → Result (Record × List ℕ) Misfit
body_at bytes = do
  term ← number_at 8 bytes
  vote ← number_at 4 term.1
  keep ← number_at 8 vote.1
  entries ← entries_at keep.1
  Ok (record { term = term.0; vote = vote.0; keep = keep.0; entries = entries.0 }, entries.1)

-- where a body was refused, if that wasn't for want of memory
abbrev pub place : FrameRefused → Option ℕ
place (refusals.BadFile at) = Some at
place refusals.NoMemory = None
