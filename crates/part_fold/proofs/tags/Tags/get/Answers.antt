use Rattle.std.proofs.Common.{ap, ◌∙◌}
use Rattle.std.specs.FinMap.{get}
use Rattle.maps.proofs.Made.{get_by_order}
use Rattle.graph_model.proofs.KeyLemmas.{tag_keys}
use Rattle.graph_model.proofs.Orders.{tag_order}
use Rattle.part_fold.proofs.tags.Tags.get.Goals as goal

pub returns : goal.returns
returns c = c.get.ensures.value ∙ get_by_order tag_keys _ tag_order c.self.inside.kept.entries c.args.key.now ∙ ap (λ m. get m c.args.key.now) c.self.view_is
