use Rattle.chain_world.proofs.WorkedRepeats.{late_run, no_step}
use Rattle.chain_world.proofs.worked_laws.worked_late.Goals as goal

pub returns : goal.returns
returns c = record { run = late_run; steps = no_step }
