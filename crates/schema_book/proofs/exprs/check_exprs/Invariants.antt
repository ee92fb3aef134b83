-- what is left tells
use Rattle.std.proofs.Common.{◌≡◌, drop}
use Rattle.schema_book.specs.Exprs.{exprs_refused}
use Rattle.schema_book.proofs.exprs.check_exprs.Given as goal

abbrev pub invariant-loop-expr : goal.invariant-loop-expr
invariant-loop-expr l = exprs_refused l.types l.places (drop l.expr-index l.exprs) ≡ exprs_refused l.types l.places l.exprs
