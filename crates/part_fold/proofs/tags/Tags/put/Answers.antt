use Rattle.std.proofs.Common.{ap, ◌∙◌, Some}
use Rattle.std.specs.FinMap.{insert}
use Rattle.maps.proofs.Made.{made_by_order}
use Rattle.graph_model.proofs.KeyLemmas.{tag_keys}
use Rattle.graph_model.proofs.Orders.{tag_order}
use Rattle.part_fold.proofs.tags.Tags.put.Goals as goal

pub returns : goal.returns
returns c =
    made_by_order tag_keys _ tag_order c.self.inside.kept.entries c.insert.new.self.entries c.args.key (Some c.args.row) c.in_ok-insert.ensures.updates.0
    ∙ ap (λ m. insert m c.args.key c.args.row) c.self.view_is
