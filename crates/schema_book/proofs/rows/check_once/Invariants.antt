-- what is left tells
use Rattle.std.proofs.Common.{◌≡◌, [], drop, take}
use Rattle.schema_book.specs.Rows.{name_twice}
use Rattle.schema_book.proofs.rows.check_once.Given as goal

abbrev pub invariant-loop-i : goal.invariant-loop-i
invariant-loop-i l = name_twice [] l.names ≡ name_twice (take l.i l.names) (drop l.i l.names)
