use Rattle.chain_world.proofs.Worlds as worlds
use Rattle.chain_world.proofs.edge_laws.equal_when_none_stands.Goals as goal

pub returns : goal.returns
returns c = worlds.equal_when_none_stands
