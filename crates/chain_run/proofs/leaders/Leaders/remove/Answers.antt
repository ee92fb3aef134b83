use Rattle.std.proofs.Common.{ap, sym, ◌∙◌, None}
use Rattle.std.specs.FinMap.{get, remove}
use Rattle.maps.proofs.Made.{get_made, made}
use Rattle.chain_run.proofs.Seats.{seat_keys}
use Rattle.chain_run.proofs.leaders.Leaders.remove.Goals as goal

pub returns-clause-leader : goal.returns-clause-leader
returns-clause-leader c = c.remove.ensures.value ∙ sym (get_made seat_keys c.self.inside.kept.entries c.args.seat) ∙ ap (λ m. get m c.args.seat) c.self.view_is

pub returns-clause-others : goal.returns-clause-others
returns-clause-others c =
    made seat_keys c.self.inside.kept.entries c.remove.new.self.entries c.args.seat None c.remove.ensures.updates.0
    ∙ ap (λ m. remove m c.args.seat) c.self.view_is
