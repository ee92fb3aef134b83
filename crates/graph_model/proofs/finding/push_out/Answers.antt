use Rattle.std.proofs.Common.{◌++◌, ap, ◌∙◌}
use Rattle.std.specs.List.{filter_map}
use Rattle.maps.specs.Places.{place_read}
use Rattle.graph_model.specs.Views.{found_out}
use Rattle.graph_model.proofs.Orders.{edge_order}
use Rattle.graph_model.proofs.RangeLemmas.{found_out_within}
use Rattle.graph_model.proofs.finding.push_out.Goals as goal

pub loop-key-init : goal.loop-key-init
loop-key-init c =
    let part = c.into_iter-key-iterator.ensures.into_iter_gives ∙ c.range-key-items.ensures.between tt in
    ap (λ es. c.args.view.now ++ filter_map (λ e. place_read (found_out c.args.v.now c.args.types.now) e.0 e.1) es) part
    ∙ ap (λ fs. c.args.view.now ++ fs) (found_out_within c.args.v.now c.args.types.now _ edge_order c.edges_of.result c.edges_of.ensures.inside c.args.places.now.entries)
