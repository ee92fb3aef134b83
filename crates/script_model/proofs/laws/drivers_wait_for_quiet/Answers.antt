use Rattle.script_model.proofs.Days.{wait}
use Rattle.script_model.proofs.laws.drivers_wait_for_quiet.Goals as goal

pub returns : goal.returns
returns c = wait
