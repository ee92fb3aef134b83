use Rattle.std.proofs.Common.{refl}
use Rattle.world_model.proofs.Worked as worked
use Rattle.world_model.proofs.laws.worked_read.Goals as goal

pub returns : goal.returns
returns c = record { lawful = worked.lawful; read_alone = refl }
