use Rattle.first_graph.proofs.Moments as at_moments
use Rattle.first_graph.proofs.laws.moments.Goals as goal

pub returns : goal.returns
returns c = at_moments.moments
