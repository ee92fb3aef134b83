use Rattle.std.proofs.Common.{◌<◌, ◌+◌, ◌∷◌, Some, length, drop, rules, ap, sym, ◌∙◌}
use Rattle.std.proofs.lemmas.List.{drop_more}
use Rattle.graph_model.specs.Holders.{holder}
use Rattle.graph_model.proofs.Holders.{holder_at, now_more, elsewhere_so_far, on_err}
use Rattle.graph_model.proofs.chains.hold.Goals as goal

pub loop-half-preserved : goal.loop-half-preserved
loop-half-preserved c = λ q.
    let below : c.loop-half.half-index < length c.args.list.now = search rules in
    let rest = drop (c.loop-half.half-index + 1) c.args.list.now in
    let e = drop_more c.args.list.now c.loop-half.half-index c.half-item.result below ∙ ap (λ x. x ∷ rest) (sym c.half-item.is) in
    now_more (drop c.loop-half.half-index c.args.list.now) rest c.half-item.result q (Some c.args.id) (holder c.loop-half.holders.entries q) (holder c.insert.new.self.entries q) _ e (c.loop-half.invariant q)
    (holder_at c.loop-half.holders.entries c.insert.new.self.entries _ (Some c.args.id) c.in_ok-insert.ensures.updates.0 q)

pub returns-in_err-insert-clause-err : goal.returns-in_err-insert-clause-err
returns-in_err-insert-clause-err c = on_err c.from_residual.result (λ q out.
    ap (λ es. holder es q) c.in_err-insert.ensures.err
    ∙ elsewhere_so_far c.loop-half.half-index c.args.list.now q (Some c.args.id) (holder c.loop-half.holders.entries q) (holder c.args.holders.now.entries q) (c.loop-half.invariant q) out)
