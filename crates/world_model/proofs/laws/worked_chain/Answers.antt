use Rattle.std.proofs.Common.{refl}
use Rattle.world_model.proofs.WorkedChain.{insertion_runs}
use Rattle.world_model.proofs.laws.worked_chain.Goals as goal

pub returns : goal.returns
returns c = record { lawful = insertion_runs; steps = refl }
