-- the rows so far
use Rattle.std.proofs.Common.{◌≡◌, take}
use Rattle.std.specs.Prelude.{flat_map}
use Rattle.shown_rows.specs.Rows.{step_rows}
use Rattle.shown_rows.proofs.shown.walked_rows.Given as goal

abbrev pub invariant-loop-view : goal.invariant-loop-view
invariant-loop-view l = l.rows ≡ flat_map (step_rows l.book.edges l.plan) (take l.view-index l.views)
