use Rattle.part_machine.proofs.Machines.{new_is}
use Rattle.part_machine.proofs.machine.Machine.new.Goals as goal

pub returns-clause-shows : goal.returns-clause-shows
returns-clause-shows g c = new_is g.S.KeyStore.meaning g.S.KeyStore.has_place _ c.requires.setting c.requires.empty c.new.ensures.empty c.new-2.ensures.items
