-- the answers that the front of the steps leaves
use Rattle.std.proofs.Common.{◌≡◌, [], take}
use Rattle.std.specs.List.{fold}
use Rattle.shown_rows.specs.Conditions.{stepped}
use Rattle.shown_rows.proofs.conditions.holds.Given as goal

abbrev pub invariant-loop-step : goal.invariant-loop-step
invariant-loop-step l = l.answers ≡ fold (stepped l.book.edges l.found) [] (take l.step-index l.steps)
