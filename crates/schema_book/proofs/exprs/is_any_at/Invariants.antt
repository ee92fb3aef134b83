-- what is left tells
use Rattle.std.proofs.Common.{◌≡◌, drop}
use Rattle.schema_book.specs.Exprs.{is_any_at}
use Rattle.schema_book.proofs.exprs.is_any_at.Given as goal

abbrev pub invariant-loop-name : goal.invariant-loop-name
invariant-loop-name l = is_any_at l.types (drop l.name-index l.names) l.place ≡ is_any_at l.types l.names l.place
