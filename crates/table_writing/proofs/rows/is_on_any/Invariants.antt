use Rattle.std.proofs.Common.{◌≡◌, drop}
use Rattle.std.specs.List.{list_any}
use Rattle.meta_parts.specs.Table as rules
use Rattle.table_writing.proofs.rows.is_on_any.Given as goal

abbrev pub invariant-loop-row : goal.invariant-loop-row
invariant-loop-row l = list_any (rules.is_on l.node) (drop l.row-index l.peers) ≡ list_any (rules.is_on l.node) l.peers
