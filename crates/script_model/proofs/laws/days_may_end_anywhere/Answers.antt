use Rattle.script_model.proofs.Days.{may_end}
use Rattle.script_model.proofs.laws.days_may_end_anywhere.Goals as goal

pub returns : goal.returns
returns c = may_end
