use Rattle.script_model.proofs.Days.{are_runs}
use Rattle.script_model.proofs.laws.days_are_runs.Goals as goal

pub returns : goal.returns
returns c = are_runs
