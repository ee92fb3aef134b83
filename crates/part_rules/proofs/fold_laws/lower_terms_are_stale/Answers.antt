use Rattle.part_rules.proofs.FoldsRise.{held_off}
use Rattle.part_rules.proofs.fold_laws.lower_terms_are_stale.Goals as goal

pub returns : goal.returns
returns c = held_off
