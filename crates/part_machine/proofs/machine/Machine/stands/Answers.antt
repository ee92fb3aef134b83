use Rattle.std.proofs.Common.{ap, ◌∙◌}
use Rattle.std.specs.FinMap.{get}
use Rattle.std.specs.Option.{is_some}
use Rattle.part_machine.specs.Chains.{Chains}
use Rattle.part_machine.proofs.machine.Machine.stands.Goals as goal

pub returns-in_default : goal.returns-in_default
returns-in_default g c p entries is = ap is_some c.in_default.ensures ∙ ap (λ (chains : Chains). is_some (get chains c.args.v)) is.state.same

pub returns : goal.returns
returns g c p entries is = ap is_some c.in-Some.ensures ∙ ap (λ (chains : Chains). is_some (get chains c.args.v)) is.state.same
