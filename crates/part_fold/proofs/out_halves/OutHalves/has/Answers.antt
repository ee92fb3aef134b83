use Rattle.std.proofs.Common.{ap, ◌∙◌}
use Rattle.std.specs.Option.{is_some}
use Rattle.std.specs.FinMap.{get}
use Rattle.maps.proofs.Made.{get_by_order}
use Rattle.graph_model.proofs.KeyLemmas.{edge_keys}
use Rattle.graph_model.proofs.Orders.{edge_order}
use Rattle.part_fold.proofs.out_halves.OutHalves.has.Goals as goal

pub returns : goal.returns
returns c = c.contains_key.ensures ∙ ap is_some (get_by_order edge_keys _ edge_order c.self.inside.kept.entries c.args.edge.now) ∙ ap (λ m. is_some (get m c.args.edge.now)) c.self.view_is
