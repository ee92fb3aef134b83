use Rattle.replica_spelling.proofs.Steps.{created_spelled, reopened_spelled}
use Rattle.replica_spelling.proofs.laws.replicas_come_up_spelled.Goals as goal

pub returns-clause-created : goal.returns-clause-created
returns-clause-created c home me first is = created_spelled home me first is

pub returns-clause-reopened : goal.returns-clause-reopened
returns-clause-reopened c home r me is = reopened_spelled home r me is
