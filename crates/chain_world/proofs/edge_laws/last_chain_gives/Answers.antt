use Rattle.chain_world.proofs.Worlds as worlds
use Rattle.chain_world.proofs.edge_laws.last_chain_gives.Goals as goal

pub returns : goal.returns
returns c = worlds.last_chain_gives
