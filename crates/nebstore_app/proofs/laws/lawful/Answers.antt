use Rattle.nebstore_app.specs.Steps.{steps_of}
use Rattle.nebstore_app.proofs.laws.lawful.Goals as goal

pub returns : goal.returns
returns c = λ events g goes. record {
  equal_halves = λ before after mid whole first then_on. c.equal_halves.ensures before mid first;
  once_each = c.once_each.ensures (steps_of events) g goes;
  never_cancelled = λ before after mid whole first then_on. c.acknowledged_never_cancelled.ensures before after mid g first then_on;
  stays_visible = c.acknowledged_stays_visible.ensures (steps_of events) g goes;
}
