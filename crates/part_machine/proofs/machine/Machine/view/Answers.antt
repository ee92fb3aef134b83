use Rattle.part_machine.proofs.machine.Machine.view.Goals as goal

pub returns : goal.returns
returns g c = λ p entries is. c.view.ensures p is.state.keeps
