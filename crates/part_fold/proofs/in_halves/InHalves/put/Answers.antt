use Rattle.std.proofs.Common.{Some, ap, ◌∙◌}
use Rattle.std.specs.FinMap.{insert}
use Rattle.maps.proofs.Made.{made_by_order}
use Rattle.graph_model.proofs.KeyLemmas.{in_keys}
use Rattle.graph_model.proofs.Orders.{in_order}
use Rattle.part_fold.proofs.in_halves.InHalves.put.Goals as goal

pub returns : goal.returns
returns c =
    made_by_order in_keys _ in_order c.self.inside.kept.entries c.insert.new.self.entries c.of-key.result (Some c.args.half) c.in_ok-insert.ensures.updates.0
    ∙ ap (λ m. insert m c.of-key.result c.args.half) c.self.view_is ∙ ap (λ k. insert c.args.self.now k c.args.half) c.of-key.ensures
