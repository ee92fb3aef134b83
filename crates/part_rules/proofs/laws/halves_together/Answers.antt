use Rattle.part_rules.proofs.Together.{together}
use Rattle.part_rules.proofs.laws.halves_together.Goals as goal

pub returns : goal.returns
returns c = together
