-- what is left tells
use Rattle.std.proofs.Common.{◌≡◌, drop}
use Rattle.schema_book.specs.Rows.{not_set}
use Rattle.schema_book.proofs.rows.check_set.Given as goal

abbrev pub invariant-loop-column : goal.invariant-loop-column
invariant-loop-column l = not_set (drop l.column-index l.columns) l.names ≡ not_set l.columns l.names
