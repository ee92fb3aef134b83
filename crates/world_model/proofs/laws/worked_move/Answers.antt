use Rattle.std.proofs.Common.{refl}
use Rattle.world_model.proofs.WorkedMove.{move_runs, in_order}
use Rattle.world_model.proofs.laws.worked_move.Goals as goal

pub returns : goal.returns
returns c = record { lawful = move_runs; routed = (refl, refl); goes_on = (refl, refl); in_order = in_order }
