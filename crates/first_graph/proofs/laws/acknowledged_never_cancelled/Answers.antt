use Rattle.first_graph.proofs.Never as never
use Rattle.first_graph.proofs.laws.acknowledged_never_cancelled.Goals as goal

pub returns : goal.returns
returns c = never.acknowledged_never_cancelled
