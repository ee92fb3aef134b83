use Rattle.std.proofs.Common.{◌≡◌, ◌++◌, map, drop, Some}
use Rattle.meta_parts.specs.Table as rules
use Rattle.table_writing.proofs.making.rows_behind.Given as goal

abbrev pub invariant-loop-row : goal.invariant-loop-row
invariant-loop-row l = l.list ++ map (rules.replaced_by (Some l.task)) (drop l.row-index l.rows) ≡ map (rules.replaced_by (Some l.task)) l.rows
