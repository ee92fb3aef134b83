-- the values so far
use Rattle.std.proofs.Common.{◌≡◌, take, map}
use Rattle.schema_book.specs.Rows.{value_for}
use Rattle.schema_book.proofs.rows.row_of.Given as goal

abbrev pub invariant-loop-column : goal.invariant-loop-column
invariant-loop-column l = l.row ≡ map (value_for l.names l.values) (take l.column-index l.columns)
