use Rattle.raft_core.proofs.StepLaws as step
use Rattle.raft_core.proofs.laws.keeps_decided.Goals as goal

pub returns : goal.returns
returns c = step.keeps_decided
