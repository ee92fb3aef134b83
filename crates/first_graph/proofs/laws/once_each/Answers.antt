use Rattle.first_graph.proofs.Once as once
use Rattle.first_graph.proofs.laws.once_each.Goals as goal

pub returns : goal.returns
returns c = once.once_each
