-- what is left tells
use Rattle.std.proofs.Common.{◌≡◌, drop}
use Rattle.schema_book.specs.Exprs.{types_refused}
use Rattle.schema_book.proofs.exprs.check_types.Given as goal

abbrev pub invariant-loop-name : goal.invariant-loop-name
invariant-loop-name l = types_refused l.types (drop l.name-index l.names) ≡ types_refused l.types l.names
