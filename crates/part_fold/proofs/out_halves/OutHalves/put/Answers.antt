use Rattle.std.proofs.Common.{ap, ◌∙◌, Some}
use Rattle.std.specs.FinMap.{insert}
use Rattle.maps.proofs.Made.{made_by_order}
use Rattle.graph_model.proofs.KeyLemmas.{edge_keys}
use Rattle.graph_model.proofs.Orders.{edge_order}
use Rattle.part_fold.proofs.out_halves.OutHalves.put.Goals as goal

pub returns : goal.returns
returns c =
    made_by_order edge_keys _ edge_order c.self.inside.kept.entries c.insert.new.self.entries c.args.edge (Some c.args.row) c.in_ok-insert.ensures.updates.0
    ∙ ap (λ m. insert m c.args.edge c.args.row) c.self.view_is
