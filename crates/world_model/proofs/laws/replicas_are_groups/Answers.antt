use Rattle.world_model.proofs.Joined as joining
use Rattle.world_model.proofs.laws.replicas_are_groups.Goals as goal

pub returns : goal.returns
returns c = joining.are_groups
