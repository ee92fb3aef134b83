use Rattle.std.proofs.Common.{◌≡◌, IfOk, subst}
use Rattle.part_machine.specs.Chains.{Chains, first_behind}
use Rattle.part_machine.proofs.machine.Machine.primes.Goals as goal

pub returns : goal.returns
returns g c = λ p entries is. subst (λ (chains : Chains). IfOk c.first_behind.result (λ list. list ≡ first_behind c.args.after chains)) is.state.same c.first_behind.ensures
