use Rattle.std.proofs.Common.{◌≡◌, drop}
use Rattle.std.specs.List.{find}
use Rattle.meta_parts.specs.Table as rules
use Rattle.table_writing.proofs.rows.peer_on.Given as goal

abbrev pub invariant-loop-row : goal.invariant-loop-row
invariant-loop-row l = find (rules.is_on l.node) (drop l.row-index l.peers) ≡ find (rules.is_on l.node) l.peers
