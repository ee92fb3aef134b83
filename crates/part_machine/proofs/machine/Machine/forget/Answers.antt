use Rattle.std.proofs.Common.{refl}
use Rattle.part_machine.proofs.Machines.{forgotten}
use Rattle.part_machine.proofs.machine.Machine.forget.Goals as goal

pub returns-clause-shows : goal.returns-clause-shows
returns-clause-shows g c = λ p entries is. forgotten g.S.KeyStore.meaning g.S.KeyStore.has_place c.args.self.now p entries is _ refl refl refl c.drop_places.ensures c.new.ensures.items
