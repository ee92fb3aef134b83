use Rattle.script_model.proofs.Days.{scripts_run}
use Rattle.script_model.proofs.laws.scripts_are_runs.Goals as goal

pub returns : goal.returns
returns c = scripts_run
