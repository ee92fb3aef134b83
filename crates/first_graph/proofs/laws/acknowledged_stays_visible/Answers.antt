use Rattle.first_graph.proofs.Visible as visible
use Rattle.first_graph.proofs.laws.acknowledged_stays_visible.Goals as goal

pub returns : goal.returns
returns c = visible.stays_visible
