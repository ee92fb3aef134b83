use Rattle.replica_model.proofs.StepLaws as laws
use Rattle.replica_model.proofs.laws.one_record.Goals as goal

pub returns : goal.returns
returns c = laws.one_record
