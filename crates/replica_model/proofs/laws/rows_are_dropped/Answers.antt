use Rattle.replica_model.proofs.StepLaws as laws
use Rattle.replica_model.proofs.laws.rows_are_dropped.Goals as goal

pub returns : goal.returns
returns c = laws.rows_are_dropped
