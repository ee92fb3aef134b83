use Rattle.graph_model.proofs.Holders.{held_empty}
use Rattle.graph_model.proofs.chains.Chains.new.Goals as goal

pub invariant_of-result : goal.invariant_of-result
invariant_of-result c = held_empty c.new.result.entries _ c.new.ensures.empty
