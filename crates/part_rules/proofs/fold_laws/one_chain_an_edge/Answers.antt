use Rattle.part_rules.proofs.FoldsChains as chains
use Rattle.part_rules.proofs.fold_laws.one_chain_an_edge.Goals as goal

pub returns : goal.returns
returns c = chains.one_chain_an_edge
