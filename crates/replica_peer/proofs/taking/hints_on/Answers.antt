use Rattle.std.proofs.Common.{ap, sym, ◌∙◌}
use Rattle.replica_state.specs.Places.{number_held}
use Rattle.replica_peer.proofs.Empty.{no_number}
use Rattle.replica_peer.specs.Next.{hints_left}
use Rattle.replica_peer.proofs.taking.hints_on.Goals as goal

pub returns-then-not-on : goal.returns-then-not-on
returns-then-not-on c = ap (λ es. number_held es) c.clear.ensures.empty ∙ no_number ∙ ap (λ on. hints_left on (number_held c.args.hints.now.entries)) (sym c.if-not-on.true)
