use Rattle.std.proofs.Common.{◌<◌, ◌+◌, length, drop, ◌∷◌, rules, ap, sym, ◌∙◌, refl}
use Rattle.std.proofs.lemmas.List.{drop_more}
use Rattle.traversal.specs.Sets.{without_all}
use Rattle.traversal.proofs.SetLemmas.{one_more, none_out}
use Rattle.traversal.proofs.ends.Ends.add_ends.Goals as goal

pub loop-found-init : goal.loop-found-init
loop-found-init c = record {
  same = refl;
  undone = ap (λ l. without_all l c.args.self.now) c.new-fresh.ensures.items ∙ none_out c.args.self.now;
}

pub loop-found-preserved : goal.loop-found-preserved
loop-found-preserved c =
    let below : c.loop-found.found-index < length c.args.view.now = search rules in
    let rest = drop (c.loop-found.found-index + 1) c.args.view.now in
    let e = drop_more c.args.view.now c.loop-found.found-index c.found-item.result below ∙ ap (λ x. x ∷ rest) (sym c.found-item.is) in
    record {
      same = one_more c.loop-found.self c.add_end.new.self _ c.found-item.result (drop c.loop-found.found-index c.args.view.now) rest e c.in-Ok.ensures.ok c.loop-found.invariant.same;
      undone = c.add_end.ensures.undone ∙ c.loop-found.invariant.undone;
    }
