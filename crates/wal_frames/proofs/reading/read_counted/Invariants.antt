use Rattle.std.proofs.Common.{◌≡◌, ◌-◌}
use Rattle.byte_fields.specs.Reading.{many_at}
use Rattle.byte_fields.proofs.Loops.{with_front}
use Rattle.wal_frames.specs.Reading.{entry_at}
use Rattle.wal_frames.proofs.reading.read_counted.Given as goal

-- what was read, with what is still to be read, is all
abbrev pub invariant-loop : goal.invariant-loop
invariant-loop l = with_front l.entries (many_at entry_at (l.count - l.counter) l.rest) ≡ many_at entry_at l.count l.bytes
