use Rattle.std.proofs.Common.{refl}
use Rattle.std.specs.FinMap.{empty}
use Rattle.part_store.proofs.Blank.{keeps_blank}
use Rattle.part_store.proofs.OneState.{keeps_one}
use Rattle.part_store.proofs.laws.one_state_kept.Goals as goal

pub returns-clause-one : goal.returns-clause-one
returns-clause-one c = keeps_one

pub returns-clause-blank : goal.returns-clause-blank
returns-clause-blank c = λ s. keeps_blank s empty refl
