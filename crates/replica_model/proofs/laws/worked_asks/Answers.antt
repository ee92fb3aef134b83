use Rattle.std.proofs.Common.{refl}
use Rattle.replica_model.proofs.laws.worked_asks.Goals as goal

pub returns : goal.returns
returns c = record { no_payload = (refl, refl); of_no_part = (refl, refl); turned_away = refl; from_no_peer = (refl, refl) }
