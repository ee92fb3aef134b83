use Rattle.part_rules.proofs.FoldsRise as rise
use Rattle.part_rules.proofs.fold_laws.never_fall.Goals as goal

pub returns-clause-numbers : goal.returns-clause-numbers
returns-clause-numbers c = rise.number_behind

pub returns-clause-guards : goal.returns-clause-guards
returns-clause-guards c = rise.guard_behind
