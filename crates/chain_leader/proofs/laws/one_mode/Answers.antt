use Rattle.chain_leader.proofs.Modal.{modal}
use Rattle.chain_leader.proofs.laws.one_mode.Goals as goal

pub returns : goal.returns
returns c = modal
