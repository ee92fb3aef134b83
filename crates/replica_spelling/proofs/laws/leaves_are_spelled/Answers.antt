use Rattle.replica_spelling.proofs.Steps.{fresh_spelled, step_spelled}
use Rattle.replica_spelling.proofs.laws.leaves_are_spelled.Goals as goal

pub returns-clause-leaves : goal.returns-clause-leaves
returns-clause-leaves c home r i at is heard = (step_spelled home at r is i heard).0

pub returns-clause-begins : goal.returns-clause-begins
returns-clause-begins c home core peer items fit = fresh_spelled home core peer items fit

pub returns-clause-kept : goal.returns-clause-kept
returns-clause-kept c home r i at is heard = (step_spelled home at r is i heard).1
