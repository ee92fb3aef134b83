use Rattle.std.proofs.Common.{ap, sym, ◌∙◌}
use Rattle.std.specs.FinMap.{get}
use Rattle.maps.proofs.Made.{get_made}
use Rattle.chain_run.proofs.Seats.{seat_keys}
use Rattle.chain_run.proofs.leaders.Leaders.get.Goals as goal

pub returns : goal.returns
returns c = c.get.ensures.value ∙ sym (get_made seat_keys c.self.inside.kept.entries c.args.seat) ∙ ap (λ m. get m c.args.seat) c.self.view_is
