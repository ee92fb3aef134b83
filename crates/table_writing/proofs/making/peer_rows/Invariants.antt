use Rattle.std.proofs.Common.{◌≡◌, ◌++◌, ◌-◌, suc, map}
use Rattle.meta_parts.specs.Table as rules
use Rattle.table_writing.proofs.making.peer_rows.Given as goal

abbrev pub invariant-loop-i : goal.invariant-loop-i
invariant-loop-i l = l.list ++ map (rules.peer_row l.up l.part) (rules.up_from (suc l.i) (l.factor - l.i)) ≡ map (rules.peer_row l.up l.part) (rules.numbers l.factor)
