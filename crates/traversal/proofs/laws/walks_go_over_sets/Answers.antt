use Rattle.traversal.proofs.WalkLemmas.{goes_over_sets}
use Rattle.traversal.proofs.laws.walks_go_over_sets.Goals as goal

pub returns : goal.returns
returns c = goes_over_sets
