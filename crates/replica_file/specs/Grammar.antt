-- The body of a record in the file of a replica: that of any log, but each payload in it is one that may stand there.
use Rattle.std.specs.Prelude.{◌≡◌, ℕ, Bool, true, List, [], ◌++◌, Result, Ok, Err, if◌then◌else◌}
use Rattle.std.specs.List.{AllByRecursion, list_all}
use Rattle.byte_fields.specs.declared.misfit.Misfit.{Misfit}
use Rattle.byte_fields.specs.Reading.{◌>>=◌, misfit, number_at, many_at, whole}
use Rattle.raft_log.specs.declared.entry.Entry.{Entry}
use Rattle.raft_log.specs.declared.entry.Item.{Item}
use Rattle.raft_log.specs.declared.entry.Item.TheVariants.{NoOp, Members, Payload}
use Rattle.raft_log.specs.declared.record.Record.{Record}
use Rattle.wal_frames.specs.Reading.{entry_at}
use Rattle.wal_frames.specs.Spelling.{FitsRecord}

-- the version of the files
abbrev pub file_version : ℕ
file_version = 2

-- which payloads may stand in a log
abbrev pub Allowed : Type 0
Allowed = List ℕ → Bool

-- the bytes of a payload
abbrev pub payload_of : Item → List ℕ
payload_of NoOp = []
payload_of (Members config) = []
payload_of (Payload bytes) = bytes

-- whether an item may stand there, and an entry, and all of some entries
abbrev pub item_may : Allowed → Item → Bool
item_may allowed NoOp = true
item_may allowed (Members config) = true
item_may allowed (Payload bytes) = allowed bytes

abbrev pub may_stand : Allowed → Entry → Bool
may_stand allowed e = item_may allowed e.item

abbrev pub all_may : Allowed → List Entry → Bool
all_may allowed entries = list_all (λ (e : Entry). may_stand allowed e) entries

-- An entry that may stand in the log. Where one may not, its payload doesn't fit, at its first byte.
unfoldable pub own_entry_at : Allowed → List ℕ → Result (Entry × List ℕ) Misfit
own_entry_at allowed bytes = entry_at bytes >>= λ e. if may_stand allowed e.0 then Ok e else Err (misfit (payload_of e.0.item ++ e.1))

-- term, vote, keep, and the entries behind their count
unfoldable pub record_at : Allowed → List ℕ → Result (Record × List ℕ) Misfit
record_at allowed bytes = do
  term ← number_at 8 bytes
  vote ← number_at 4 term.1
  keep ← number_at 8 vote.1
  count ← number_at 4 keep.1
  entries ← many_at (own_entry_at allowed) count.0 count.1
  Ok (record { term = term.0; vote = vote.0; keep = keep.0; entries = entries.0 }, entries.1)

-- the record that all of a body is, or its first field that doesn't fit
abbrev pub record_in : Allowed → List ℕ → Result Record Misfit
record_in allowed body = whole (record_at allowed) body

-- a record that has a body, and whose entries may all stand in the log
pub record IsRecord (allowed : Allowed) (r : Record) : Type 0 where
  pub fits : FitsRecord r
  pub own : AllByRecursion (λ (e : Entry). may_stand allowed e ≡ true) r.entries
