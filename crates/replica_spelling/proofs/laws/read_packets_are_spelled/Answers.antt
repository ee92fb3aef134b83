use Rattle.replica_spelling.proofs.Hear.{packet_heard}
use Rattle.replica_spelling.proofs.Read.{read_spelled}
use Rattle.replica_spelling.proofs.laws.read_packets_are_spelled.Goals as goal

pub returns-clause-read : goal.returns-clause-read
returns-clause-read c home p at fits are = read_spelled home at p fits are

pub returns-clause-heard : goal.returns-clause-heard
returns-clause-heard c p is = packet_heard p is
