use Rattle.replica_model.proofs.StepLaws as laws
use Rattle.replica_model.proofs.laws.reads_wait.Goals as goal

pub returns : goal.returns
returns c = record { waits = laws.reads_wait; begins = λ core. tt; kept = laws.rounds_are_kept }
