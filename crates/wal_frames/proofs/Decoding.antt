-- Entries are a format, and bodies are.
use Rattle.byte_fields.proofs.Formats.{IsFormat}
use Rattle.wal_frames.specs.Spelling.{FitsEntry, FitsRecord, entry, body}
use Rattle.wal_frames.specs.Reading.{entry_at, body_at}
use Rattle.wal_frames.proofs.Laws.{entry_takes, entry_again, body_takes, body_again}
use Rattle.wal_frames.proofs.Within.{entry_within, body_within}

-- an entry
pub entry_format : IsFormat entry_at entry FitsEntry
entry_format = record { takes = entry_takes; again = entry_again; within = entry_within }

-- a record's body
pub body_format : IsFormat body_at body FitsRecord
body_format = record { takes = body_takes; again = body_again; within = body_within }
