use Rattle.chain_world.proofs.WorkedBeside as worked
use Rattle.chain_world.proofs.worked_laws.worked_seeing.Goals as goal

pub returns-clause-run : goal.returns-clause-run
returns-clause-run c = worked.two_leaders

pub returns-clause-old : goal.returns-clause-old
returns-clause-old c = worked.nothing_old

pub returns-clause-new : goal.returns-clause-new
returns-clause-new c = worked.sees_the_new
