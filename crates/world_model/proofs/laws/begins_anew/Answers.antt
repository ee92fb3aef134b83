use Rattle.world_model.proofs.Unused as unused
use Rattle.world_model.proofs.laws.begins_anew.Goals as goal

pub returns : goal.returns
returns c = unused.as_it_began
