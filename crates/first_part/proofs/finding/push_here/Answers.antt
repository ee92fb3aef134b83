use Rattle.std.proofs.Common.{◌++◌, ap, ◌∙◌, arith}
use Rattle.std.specs.List.{filter_map}
use Rattle.std.proofs.lemmas.Grind.{common_steps}
use Rattle.first_graph.specs.Keys.{in_cmp}
use Rattle.first_graph.proofs.MapLemmas.{entries_made}
use Rattle.first_graph.proofs.KeyLemmas.{ins_total}
use Rattle.first_graph.proofs.FindingLemmas.{found_within}
use Rattle.first_part.specs.Part.{found_here}
use Rattle.first_part.proofs.Unwanted.{unwanted_here}
use Rattle.first_part.proofs.finding.push_here.Goals as goal

pub loop-key-init : goal.loop-key-init
loop-key-init c =
    let part = c.into_iter-key-iterator.ensures.into_iter_gives ∙ c.range-key-items.ensures.between tt in
    ap (λ es. c.args.view.now ++ filter_map (found_here c.args.v.now c.args.types.now) es) part
    ∙ ap (λ fs. c.args.view.now ++ fs)
    (found_within in_cmp (λ k. k.dst) c.args.v.now c.in_edges_of.result c.in_edges_of.ensures.inside (found_here c.args.v.now c.args.types.now) (unwanted_here c.args.v.now c.args.types.now) c.args.inn.now.entries)

pub returns : goal.returns
returns c = rw (entries_made ins_total c.args.inn.now.entries c.range-key-items.ensures.ordered) (grind (arith, common_steps))
