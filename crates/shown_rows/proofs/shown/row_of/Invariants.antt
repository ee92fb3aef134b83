-- the values so far
use Rattle.std.proofs.Common.{◌≡◌, take, map}
use Rattle.shown_rows.specs.Values.{value_of}
use Rattle.shown_rows.proofs.shown.row_of.Given as goal

abbrev pub invariant-loop-expr : goal.invariant-loop-expr
invariant-loop-expr l = l.row ≡ map (value_of l.book.edges l.key l.found) (take l.expr-index l.shown)
