use Rattle.std.proofs.Common.{◌++◌, ap, ◌∙◌}
use Rattle.std.specs.List.{filter_map}
use Rattle.maps.specs.Places.{place_read}
use Rattle.graph_model.specs.Views.{found_in}
use Rattle.graph_model.proofs.Orders.{in_order}
use Rattle.graph_model.proofs.RangeLemmas.{found_in_within}
use Rattle.graph_model.proofs.finding.push_in.Goals as goal

pub loop-key-init : goal.loop-key-init
loop-key-init c =
    let part = c.into_iter-key-iterator.ensures.into_iter_gives ∙ c.range-key-items.ensures.between tt in
    ap (λ es. c.args.view.now ++ filter_map (λ e. place_read (found_in c.args.v.now c.args.types.now) e.0 e.1) es) part
    ∙ ap (λ fs. c.args.view.now ++ fs) (found_in_within c.args.v.now c.args.types.now _ in_order c.in_edges_of.result c.in_edges_of.ensures.inside c.args.places.now.entries)
