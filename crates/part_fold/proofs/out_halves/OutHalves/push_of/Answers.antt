use Rattle.std.proofs.Common.{◌++◌, ap, sym, subst, ◌∙◌}
use Rattle.std.specs.List.{filter_map}
use Rattle.std.specs.List.Sorted.{IsStrictlySortedBy}
use Rattle.std.specs.FinMap.{entries}
use Rattle.std.specs.Map.{keys_of}
use Rattle.maps.proofs.Made.{entries_made}
use Rattle.graph_model.proofs.KeyLemmas.{edge_keys}
use Rattle.graph_model.proofs.Orders.{edge_order}
use Rattle.graph_model.specs.Views.{found_out}
use Rattle.part_fold.proofs.out_halves.OutHalves.push_of.Goals as goal

pub returns : goal.returns
returns c =
    let f = found_out c.args.v.now c.args.types.now in
    let es = c.self.inside.kept.entries in
    let made = entries_made edge_keys es (subst (λ T. IsStrictlySortedBy T (keys_of es)) edge_order c.len-count.ensures.ordered) in
    c.in_ok-push_all.ensures ∙ ap (λ l. c.args.view.now ++ filter_map f l) (sym made) ∙ ap (λ m. c.args.view.now ++ filter_map f (entries m)) c.self.view_is
