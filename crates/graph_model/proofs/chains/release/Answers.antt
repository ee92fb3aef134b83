use Rattle.std.proofs.Common.{◌<◌, ◌+◌, ◌∷◌, None, length, drop, rules, ap, sym, ◌∙◌}
use Rattle.std.proofs.lemmas.List.{drop_more}
use Rattle.graph_model.specs.Holders.{holder}
use Rattle.graph_model.proofs.Holders.{holder_at, now_more}
use Rattle.graph_model.proofs.chains.release.Goals as goal

pub loop-half-preserved : goal.loop-half-preserved
loop-half-preserved c = λ q.
    let below : c.loop-half.half-index < length c.args.list.now = search rules in
    let rest = drop (c.loop-half.half-index + 1) c.args.list.now in
    let e = drop_more c.args.list.now c.loop-half.half-index c.half-item.result below ∙ ap (λ x. x ∷ rest) (sym c.half-item.is) in
    now_more (drop c.loop-half.half-index c.args.list.now) rest c.half-item.result q None (holder c.loop-half.holders.entries q) (holder c.remove.new.self.entries q) _ e (c.loop-half.invariant q)
    (holder_at c.loop-half.holders.entries c.remove.new.self.entries _ None c.remove.ensures.updates.0 q)
