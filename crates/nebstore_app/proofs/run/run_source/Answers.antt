use Rattle.std.proofs.Common.{refl, arith}
use Rattle.nebstore_app.proofs.Outcomes.{says_failed, nothing_run}
use Rattle.nebstore_app.proofs.run.run_source.Goals as goal

pub returns-in-Failed-clause-outcome : goal.returns-in-Failed-clause-outcome
returns-in-Failed-clause-outcome g c = (
  c.read_up_to.new.into.items,
  c.read_up_to.ensures.given,
  says_failed c.run_to-in-Failed.result _ c.run_to-in-Failed.new.world.events _ c.as_slice-in-Failed.result.now
      (record { few = omega (arith, c.in-Failed.ensures.why); counted = c.in-Failed.ensures.faults }) c.as_slice-in-Failed.ensures.value c.run_to-in-Failed.ensures.ran,
)

pub returns-clause-outcome : goal.returns-clause-outcome
returns-clause-outcome g c = (
  c.read_up_to.new.into.items,
  c.read_up_to.ensures.given,
  (refl, nothing_run _ c.args.world.now (g.K.Sink.written c.args.sink.now) (g.K.Sink.faults c.args.sink.now) c.requires),
)
