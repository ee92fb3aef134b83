use Rattle.chain_world.proofs.WorkedClosed.{double_run, its_steps}
use Rattle.chain_world.proofs.worked_laws.worked_double.Goals as goal

pub returns : goal.returns
returns c = record { run = double_run; steps = its_steps }
