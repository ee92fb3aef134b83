use Rattle.std.proofs.Common.{◌≡◌, ◌++◌, map, drop}
use Rattle.meta_parts.specs.Table as rules
use Rattle.table_writing.proofs.making.rows_counted.Given as goal

abbrev pub invariant-loop-row : goal.invariant-loop-row
invariant-loop-row l = l.list ++ map (rules.counted_on l.part l.new) (drop l.row-index l.rows) ≡ map (rules.counted_on l.part l.new) l.rows
