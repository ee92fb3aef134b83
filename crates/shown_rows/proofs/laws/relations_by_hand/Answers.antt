use Rattle.std.proofs.Common.{refl}
use Rattle.shown_rows.proofs.laws.relations_by_hand.Goals as goal

pub returns : goal.returns
returns c = refl
