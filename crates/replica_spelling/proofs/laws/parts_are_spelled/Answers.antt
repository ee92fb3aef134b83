use Rattle.replica_spelling.proofs.Asked.{machine_spelled}
use Rattle.replica_spelling.proofs.laws.parts_are_spelled.Goals as goal

pub returns : goal.returns
returns c home r at is = machine_spelled home at r is
