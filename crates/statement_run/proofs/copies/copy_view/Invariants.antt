use Rattle.std.proofs.Common.{◌≡◌, take}
use Rattle.statement_run.proofs.copies.copy_view.Given as goal

-- the rows so far
abbrev pub invariant-loop-found : goal.invariant-loop-found
invariant-loop-found l = l.made ≡ take l.found-index l.view
