use Rattle.std.proofs.Common.{◌≡◌, [], drop, take}
use Rattle.schema_book.specs.Columns.{bad_column}
use Rattle.schema_book.proofs.columns.check_columns.Given as goal

abbrev pub invariant-loop-i : goal.invariant-loop-i
invariant-loop-i l = bad_column [] l.columns ≡ bad_column (take l.i l.columns) (drop l.i l.columns)
