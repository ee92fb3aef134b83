use Rattle.std.proofs.Common.{refl, ◌∙◌, arith}
use Rattle.part_machine.proofs.Machines.{applied_is, first_answer}
use Rattle.part_machine.proofs.machine.Machine.apply.Goals as goal

pub returns-clause-shows : goal.returns-clause-shows
returns-clause-shows g c = λ p rest is. (
  applied_is g.S.KeyStore.meaning g.S.KeyStore.has_place c.args.self.now p c.args.index c.args._entry.now rest is c.in-Some.plan c.pop_front.new.self.items c.in-Some.ensures.items _
      refl (omega arith) c.write.ensures.written c.take_turn.ensures.turned
      (record { writes = λ key here. c.write.ensures.places key ∙ here; turns = c.take_turn.ensures.kept }) refl,
  first_answer g.S.KeyStore.meaning g.S.KeyStore.has_place c.args.self.now p c.args.index c.args._entry.now rest is c.in-Some.plan c.pop_front.new.self.items c.in-Some.ensures.items,
)
