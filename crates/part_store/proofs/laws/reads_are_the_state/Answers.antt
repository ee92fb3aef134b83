use Rattle.part_store.proofs.Reading.{tag_is, out_is, number_is, chain_is, guard_is, last_is}
use Rattle.part_store.proofs.TagsRead.{tags_all}
use Rattle.part_store.proofs.laws.reads_are_the_state.Goals as goal

pub returns-clause-rows : goal.returns-clause-rows
returns-clause-rows c = λ s is p m keeps. (tag_is s p m keeps, out_is s p m keeps)

pub returns-clause-edges : goal.returns-clause-edges
returns-clause-edges c = λ s is p m keeps. (number_is s p m keeps, chain_is s p m keeps)

pub returns-clause-records : goal.returns-clause-records
returns-clause-records c = λ s is p m keeps. (guard_is s p m keeps, last_is s p m keeps)

pub returns-clause-tags : goal.returns-clause-tags
returns-clause-tags c = λ s is p m keeps. tags_all s p m keeps
