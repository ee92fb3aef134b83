use Rattle.std.proofs.Common.{ap, ◌∙◌, Some}
use Rattle.std.specs.FinMap.{insert}
use Rattle.maps.proofs.Keys.{nat_keys}
use Rattle.maps.proofs.Made.{made}
use Rattle.part_fold.proofs.standing.Standing.put.Goals as goal

pub returns : goal.returns
returns c =
    made nat_keys c.self.inside.kept.entries c.insert.new.self.entries c.args.v (Some c.args.chain) c.in_ok-insert.ensures.updates.0
    ∙ ap (λ m. insert m c.args.v c.args.chain) c.self.view_is
