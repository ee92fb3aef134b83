use Rattle.std.proofs.Common.{ap, sym, ◌∙◌, None}
use Rattle.std.specs.FinMap.{get, remove}
use Rattle.maps.proofs.Keys.{nat_keys}
use Rattle.maps.proofs.Made.{get_made, made}
use Rattle.part_fold.proofs.standing.Standing.remove.Goals as goal

pub returns-clause-chain : goal.returns-clause-chain
returns-clause-chain c = c.remove.ensures.value ∙ sym (get_made nat_keys c.self.inside.kept.entries c.args.v) ∙ ap (λ m. get m c.args.v) c.self.view_is

pub returns-clause-others : goal.returns-clause-others
returns-clause-others c =
    made nat_keys c.self.inside.kept.entries c.remove.new.self.entries c.args.v None c.remove.ensures.updates.0
    ∙ ap (λ m. remove m c.args.v) c.self.view_is
