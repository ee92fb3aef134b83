use Rattle.std.proofs.Common.{ap, ◌∙◌, None}
use Rattle.std.specs.FinMap.{remove}
use Rattle.maps.proofs.Made.{made_by_order}
use Rattle.graph_model.proofs.KeyLemmas.{edge_keys}
use Rattle.graph_model.proofs.Orders.{edge_order}
use Rattle.part_fold.proofs.out_halves.OutHalves.remove.Goals as goal

pub returns : goal.returns
returns c =
    made_by_order edge_keys _ edge_order c.self.inside.kept.entries c.remove.new.self.entries c.args.edge.now None c.remove.ensures.updates.0
    ∙ ap (λ m. remove m c.args.edge.now) c.self.view_is
