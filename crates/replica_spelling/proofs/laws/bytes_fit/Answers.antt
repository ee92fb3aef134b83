use Rattle.replica_spelling.proofs.Entries.{bytes_fit}
use Rattle.replica_spelling.proofs.laws.bytes_fit.Goals as goal

pub returns : goal.returns
returns c home entries at bytes = bytes_fit home at.spelling entries bytes
