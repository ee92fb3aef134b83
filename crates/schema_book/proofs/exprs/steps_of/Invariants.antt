-- what is made so far
use Rattle.std.proofs.Common.{◌≡◌, take}
use Rattle.schema_book.specs.Exprs.{steps_of}
use Rattle.schema_book.proofs.exprs.steps_of.Given as goal

abbrev pub invariant-loop-step : goal.invariant-loop-step
invariant-loop-step l = l.made ≡ steps_of l.types l.places (take l.step-index l.steps)
