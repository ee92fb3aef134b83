use Rattle.replica_model.proofs.StepLaws as laws
use Rattle.replica_model.proofs.laws.from_no_client.Goals as goal

pub returns : goal.returns
returns c = record { remote = laws.no_remote; fence = laws.no_fence }
