use Rattle.world_model.proofs.Joined as joining
use Rattle.world_model.proofs.laws.worlds_are_joined.Goals as goal

pub returns : goal.returns
returns c = joining.are_joined
