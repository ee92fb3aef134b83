use Rattle.std.proofs.Common.{◌≡◌, ◌-◌}
use Rattle.byte_fields.specs.Reading.{many_at}
use Rattle.byte_fields.proofs.Loops.{with_front}
use Rattle.replica_file.specs.Grammar.{own_entry_at}
use Rattle.replica_file.proofs.reading.read_own_entries.Given as goal

-- what was read, with what is still to be read, is all
abbrev pub invariant-loop : goal.invariant-loop
invariant-loop g l = with_front l.entries.items (many_at (own_entry_at (g.P.Payloads.allowed l.payloads)) (l.count - l.counter) l.rest) ≡ many_at (own_entry_at (g.P.Payloads.allowed l.payloads)) l.count l.bytes
