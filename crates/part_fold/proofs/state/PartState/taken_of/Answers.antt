use Rattle.std.proofs.Common.{◌≡◌, false, ap, ◌∙◌}
use Rattle.graph_model.specs.Edges.{edges_in, are_edges}
use Rattle.maps.specs.Lists.{has_all, missing}
use Rattle.part_fold.proofs.Taking.{missing_edges}
use Rattle.part_fold.proofs.state.PartState.taken_of.Goals as goal

pub new-requires : goal.new-requires
new-requires c =
    let out = c.args.self.now.out in
    let some : has_all out (edges_in c.args.list.now) ≡ false = cc (c.requires, c.if-not-absent.false) in
    ap (λ l. are_edges (edges_in l)) (c.in_ok-taken-2.ensures ∙ ap (missing out) c.as_slice.ensures.list) ∙ missing_edges out c.args.list.now c.as_slice.ensures.edges some
