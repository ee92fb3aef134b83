use Rattle.std.proofs.Common.{ap, sym, ◌∙◌}
use Rattle.std.specs.Option.{is_some}
use Rattle.std.specs.FinMap.{get}
use Rattle.maps.proofs.Made.{get_made}
use Rattle.chain_run.proofs.Seats.{seat_keys}
use Rattle.chain_run.proofs.leaders.Leaders.has.Goals as goal

pub returns : goal.returns
returns c = c.contains_key.ensures ∙ ap is_some (sym (get_made seat_keys c.self.inside.kept.entries c.args.seat)) ∙ ap (λ m. is_some (get m c.args.seat)) c.self.view_is
