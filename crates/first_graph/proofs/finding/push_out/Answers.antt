use Rattle.std.proofs.Common.{◌++◌, ap, ◌∙◌, arith}
use Rattle.std.specs.List.{filter_map}
use Rattle.std.proofs.lemmas.Grind.{common_steps}
use Rattle.first_graph.specs.Views.{found_out}
use Rattle.first_graph.proofs.MapLemmas.{entries_made}
use Rattle.first_graph.proofs.KeyLemmas.{edges_total}
use Rattle.first_graph.proofs.FindingLemmas.{found_out_within}
use Rattle.first_graph.proofs.finding.push_out.Goals as goal

pub loop-e-init : goal.loop-e-init
loop-e-init c =
    let part = c.into_iter-e-iterator.ensures.into_iter_gives ∙ c.range-e-items.ensures.between tt in
    ap (λ es. c.args.view.now ++ filter_map (found_out c.args.v.now c.args.types.now) es) part
    ∙ ap (λ fs. c.args.view.now ++ fs) (found_out_within c.args.v.now c.args.types.now c.edges_of.result c.edges_of.ensures.inside c.args.out.now.entries)

pub returns : goal.returns
returns c = rw (entries_made edges_total c.args.out.now.entries c.range-e-items.ensures.ordered) (grind (arith, common_steps))
