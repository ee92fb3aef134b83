use Rattle.std.proofs.Common.{refl}
use Rattle.std.specs.Fmt.{digits}
use Rattle.line_print.proofs.laws.printed_by_hand.Goals as goal

pub returns : goal.returns
unfolding digits
returns c = record { values = refl; no_row = refl; conflict = refl; parts = refl; refused = refl }
