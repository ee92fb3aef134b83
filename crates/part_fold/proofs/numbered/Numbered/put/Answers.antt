use Rattle.std.proofs.Common.{ap, ◌∙◌, Some}
use Rattle.std.specs.FinMap.{insert}
use Rattle.maps.proofs.Keys.{nat_keys}
use Rattle.maps.proofs.Made.{made}
use Rattle.part_fold.proofs.numbered.Numbered.put.Goals as goal

pub returns : goal.returns
returns g c =
    made nat_keys c.self.inside.kept.entries c.insert.new.self.entries c.args.number (Some c.args.value) c.in_ok-insert.ensures.updates.0
    ∙ ap (λ m. insert m c.args.number c.args.value) c.self.view_is
