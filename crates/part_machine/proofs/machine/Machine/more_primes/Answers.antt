use Rattle.std.proofs.Common.{length, ap, ◌∙◌}
use Rattle.std.specs.Prelude.{nat_lt}
use Rattle.part_rules.specs.View.{at_once}
use Rattle.part_machine.specs.Chains.{Chains, all_behind}
use Rattle.part_machine.proofs.machine.Machine.more_primes.Goals as goal

pub returns : goal.returns
returns g c = λ p entries is. c.more_behind.ensures ∙ ap (λ (chains : Chains). nat_lt at_once (length (all_behind c.args.after chains))) is.state.same
