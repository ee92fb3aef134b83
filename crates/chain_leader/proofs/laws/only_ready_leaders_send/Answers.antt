use Rattle.chain_leader.proofs.Silence.{silent}
use Rattle.chain_leader.proofs.laws.only_ready_leaders_send.Goals as goal

pub returns : goal.returns
returns c = silent
