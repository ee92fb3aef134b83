use Rattle.std.proofs.Common.{◌++◌, ap, ◌∙◌, arith}
use Rattle.std.specs.List.{filter_map}
use Rattle.std.proofs.lemmas.Grind.{common_steps}
use Rattle.first_graph.specs.Views.{found_in}
use Rattle.first_graph.proofs.MapLemmas.{entries_made}
use Rattle.first_graph.proofs.KeyLemmas.{ins_total}
use Rattle.first_graph.proofs.FindingLemmas.{found_in_within}
use Rattle.first_graph.proofs.finding.push_in.Goals as goal

pub loop-key-init : goal.loop-key-init
loop-key-init c =
    let part = c.into_iter-key-iterator.ensures.into_iter_gives ∙ c.range-key-items.ensures.between tt in
    ap (λ es. c.args.view.now ++ filter_map (found_in c.args.v.now c.args.types.now) es) part
    ∙ ap (λ fs. c.args.view.now ++ fs) (found_in_within c.args.v.now c.args.types.now c.in_edges_of.result c.in_edges_of.ensures.inside c.args.inn.now.entries)

pub returns : goal.returns
returns c = rw (entries_made ins_total c.args.inn.now.entries c.range-key-items.ensures.ordered) (grind (arith, common_steps))
