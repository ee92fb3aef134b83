-- the rows so far, and those that are left
use Rattle.std.proofs.Common.{◌≡◌, ◌++◌, drop}
use Rattle.shown_rows.specs.Rows.{step_rows}
use Rattle.shown_rows.proofs.shown.add_kept.Given as goal

abbrev pub invariant-loop-found : goal.invariant-loop-found
invariant-loop-found l = l.rows ++ step_rows l.book.edges l.plan (drop l.found-index l.view) ≡ l.fn.rows ++ step_rows l.book.edges l.plan l.view
