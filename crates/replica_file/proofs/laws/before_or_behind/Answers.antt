use Rattle.replica_file.proofs.Files.{before_or_behind}
use Rattle.replica_file.proofs.laws.before_or_behind.Goals as goal

pub returns : goal.returns
returns c = before_or_behind
