use Rattle.std.proofs.Common.{◌<◌, ◌+◌, ◌∷◌, length, drop, rules, ap, sym, ◌∙◌}
use Rattle.std.proofs.lemmas.List.{drop_more}
use Rattle.maps.proofs.Present.{read_more}
use Rattle.part_views.specs.Views.{in_shown}
use Rattle.part_views.proofs.pairs.push_ins.Goals as goal

pub loop-pair-preserved : goal.loop-pair-preserved
loop-pair-preserved c =
    let f = in_shown c.args.ids c.args.v.now c.args.types.now in
    let below : c.loop-pair.pair-index < length c.args.pairs.now = search rules in
    let rest = drop (c.loop-pair.pair-index + 1) c.args.pairs.now in
    let e = drop_more c.args.pairs.now c.loop-pair.pair-index c.pair-item.result below ∙ ap (λ x. x ∷ rest) (sym c.pair-item.is) in
    read_more f c.loop-pair.view _ _ c.pair-item.result (drop c.loop-pair.pair-index c.args.pairs.now) rest e c.in_ok-push_in.ensures c.loop-pair.invariant
