use Rattle.std.proofs.Common.{ap, ◌∙◌, Some}
use Rattle.std.specs.FinMap.{insert}
use Rattle.maps.proofs.Made.{made}
use Rattle.chain_run.proofs.Seats.{seat_keys}
use Rattle.chain_run.proofs.leaders.Leaders.put.Goals as goal

pub returns : goal.returns
returns c =
    made seat_keys c.self.inside.kept.entries c.insert.new.self.entries c.args.seat (Some c.args.leader) c.in_ok-insert.ensures.updates.0
    ∙ ap (λ m. insert m c.args.seat c.args.leader) c.self.view_is
