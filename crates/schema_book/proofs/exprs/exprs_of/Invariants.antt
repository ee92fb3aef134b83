-- what is made so far
use Rattle.std.proofs.Common.{◌≡◌, take}
use Rattle.schema_book.specs.Exprs.{exprs_of}
use Rattle.schema_book.proofs.exprs.exprs_of.Given as goal

abbrev pub invariant-loop-expr : goal.invariant-loop-expr
invariant-loop-expr l = l.made ≡ exprs_of l.types l.places (take l.expr-index l.exprs)
