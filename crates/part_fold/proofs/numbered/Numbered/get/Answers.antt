use Rattle.std.proofs.Common.{ap, sym, ◌∙◌}
use Rattle.std.specs.FinMap.{get}
use Rattle.maps.proofs.Keys.{nat_keys}
use Rattle.maps.proofs.Made.{get_made}
use Rattle.part_fold.proofs.numbered.Numbered.get.Goals as goal

pub returns : goal.returns
returns g c = c.get.ensures.value ∙ sym (get_made nat_keys c.self.inside.kept.entries c.args.number) ∙ ap (λ m. get m c.args.number) c.self.view_is
