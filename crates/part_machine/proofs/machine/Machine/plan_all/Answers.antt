use Rattle.std.proofs.Common.{refl, ap, ◌∙◌}
use Rattle.part_machine.proofs.Machines.{reserved_is}
use Rattle.part_machine.proofs.machine.Machine.plan_all.Goals as goal

pub returns-in-Ok-clause-ok : goal.returns-in-Ok-clause-ok
returns-in-Ok-clause-ok g c = λ p is.
    rw (← c.as_slice.ensures)
    (reserved_is g.S.KeyStore.meaning g.S.KeyStore.has_place _ c.play_all-told.new.machine _ c.as_slice.result.now c.play_all-told.new.backs.items p is.setting is.state c.in-Ok.ensures.ok
    (c.take_back.ensures.setting ∙ c.in-Ok.ensures.ok.setting) refl c.take_back.ensures.store c.take_back.ensures.chains c.take_back.ensures.places (ap (λ q. q.items) c.take_back.ensures.plans))
