-- the rows so far, and those that are left
use Rattle.std.proofs.Common.{◌≡◌, ◌++◌, drop, map}
use Rattle.shown_rows.specs.Rows.{row_of}
use Rattle.shown_rows.proofs.shown.add_rows.Given as goal

abbrev pub invariant-loop-found : goal.invariant-loop-found
invariant-loop-found l = l.rows ++ map (row_of l.book.edges l.key l.shown) (drop l.found-index l.view) ≡ l.fn.rows ++ map (row_of l.book.edges l.key l.shown) l.view
