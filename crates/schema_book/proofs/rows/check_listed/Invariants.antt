-- what is left tells
use Rattle.std.proofs.Common.{◌≡◌, drop}
use Rattle.schema_book.specs.Rows.{no_such_column}
use Rattle.schema_book.proofs.rows.check_listed.Given as goal

abbrev pub invariant-loop-name : goal.invariant-loop-name
invariant-loop-name l = no_such_column l.columns (drop l.name-index l.names) ≡ no_such_column l.columns l.names
