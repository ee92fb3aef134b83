-- what is left tells
use Rattle.std.proofs.Common.{◌≡◌, drop}
use Rattle.schema_book.specs.Exprs.{steps_refused}
use Rattle.schema_book.proofs.exprs.check_steps.Given as goal

abbrev pub invariant-loop-step : goal.invariant-loop-step
invariant-loop-step l = steps_refused l.types l.places (drop l.step-index l.steps) ≡ steps_refused l.types l.places l.steps
