use Rattle.std.proofs.Common.{refl}
use Rattle.meta_parts.proofs.laws.worked_moves.Goals as goal

pub returns : goal.returns
returns c = record { written = refl; first = (refl, refl); second = (refl, refl); third = (refl, refl) }
