use Rattle.std.proofs.Common.{◌≡◌, ◌++◌, ◌-◌, suc}
use Rattle.meta_parts.specs.Table as rules
use Rattle.table_writing.proofs.making.numbers.Given as goal

abbrev pub invariant-loop-i : goal.invariant-loop-i
invariant-loop-i l = l.list ++ rules.up_from (suc l.i) (l.count - l.i) ≡ rules.numbers l.count
