use Rattle.part_rules.proofs.FoldsWhole as whole
use Rattle.part_rules.proofs.fold_laws.whole_or_none.Goals as goal

pub returns : goal.returns
returns c = whole.whole_or_none
