-- what is left tells
use Rattle.std.proofs.Common.{◌≡◌, drop}
use Rattle.schema_book.specs.Rows.{wrong_value}
use Rattle.schema_book.proofs.rows.check_values.Given as goal

abbrev pub invariant-loop-i : goal.invariant-loop-i
invariant-loop-i l = wrong_value l.columns (drop l.i l.names) (drop l.i l.values) ≡ wrong_value l.columns l.names l.values
