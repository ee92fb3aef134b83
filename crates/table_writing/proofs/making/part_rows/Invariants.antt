use Rattle.std.proofs.Common.{◌≡◌, ◌++◌, ◌-◌, suc, map}
use Rattle.meta_parts.specs.Table as rules
use Rattle.table_writing.proofs.making.part_rows.Given as goal

abbrev pub invariant-loop-i : goal.invariant-loop-i
invariant-loop-i l = l.list ++ map (rules.part_row l.factor l.up) (rules.up_from (suc l.i) (l.parts - l.i)) ≡ map (rules.part_row l.factor l.up) (rules.numbers l.parts)
