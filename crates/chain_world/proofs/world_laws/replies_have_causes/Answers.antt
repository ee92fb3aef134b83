use Rattle.chain_world.proofs.Brought as brought
use Rattle.chain_world.proofs.world_laws.replies_have_causes.Goals as goal

pub returns : goal.returns
returns c = brought.replies_have_causes
