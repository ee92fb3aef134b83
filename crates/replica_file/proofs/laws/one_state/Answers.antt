use Rattle.replica_file.proofs.Files.{one_state, never_bad}
use Rattle.replica_file.proofs.laws.one_state.Goals as goal

pub returns-clause-same : goal.returns-clause-same
returns-clause-same c = one_state

pub returns-clause-never_bad : goal.returns-clause-never_bad
returns-clause-never_bad c = never_bad
