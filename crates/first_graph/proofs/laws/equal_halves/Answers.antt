use Rattle.first_graph.proofs.EqualHalves as halves
use Rattle.first_graph.proofs.laws.equal_halves.Goals as goal

pub returns : goal.returns
returns c = halves.equal_halves
