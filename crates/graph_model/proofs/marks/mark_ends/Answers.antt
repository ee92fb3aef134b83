use Rattle.std.proofs.Common.{◌<◌, ◌+◌, ◌∷◌, length, drop, rules, ap, sym, ◌∙◌, subst, true, ◌≡◌}
use Rattle.std.proofs.lemmas.List.{drop_more}
use Rattle.graph_model.specs.Marks.{has_mark}
use Rattle.graph_model.proofs.Marking.{mark_more}
use Rattle.graph_model.proofs.marks.mark_ends.Goals as goal

pub loop-half-preserved : goal.loop-half-preserved
loop-half-preserved c =
    let below : c.loop-half.half-index < length c.args.list.now = search rules in
    let rest = drop (c.loop-half.half-index + 1) c.args.list.now in
    let e = drop_more c.args.list.now c.loop-half.half-index c.half-item.result below ∙ ap (λ x. x ∷ rest) (sym c.half-item.is) in
    record {
      grows = λ v i h. c.mark_at.ensures.grows v i (c.loop-half.invariant.grows v i h);
      marked = λ v h. mark_more c.args.inward (drop c.loop-half.half-index c.args.list.now) rest c.half-item.result v c.loop-half.marks.entries c.mark_at.new.marks.entries c.args.step e
          (c.loop-half.invariant.marked v h) c.mark_at.ensures.grows
          (subst (λ w. has_mark c.mark_at.new.marks.entries w c.args.step ≡ true) c.end_of-end.ensures c.in_ok-mark_at.ensures.marked);
    }
