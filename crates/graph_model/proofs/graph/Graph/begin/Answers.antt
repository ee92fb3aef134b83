use Rattle.std.proofs.Common.{◌≡◌, false, ap, sym, subst, ◌∙◌}
use Rattle.std.specs.Prelude.{is_some}
use Rattle.graph_model.specs.Ops.{edges_in, edges_of}
use Rattle.graph_model.specs.State.{first_pending}
use Rattle.graph_model.specs.Lookups.{takes_of}
use Rattle.graph_model.specs.Holders.{AreFree}
use Rattle.graph_model.proofs.Holders.{free_taken}
use Rattle.graph_model.proofs.graph.Graph.begin.Goals as goal

pub begin_chain-requires : goal.begin_chain-requires
begin_chain-requires c =
    let g = c.args.self.now in
    let op = c.in-Some.call.now.op in
    let list_is : c.in_ok-list.list ≡ takes_of g.contents op = c.in_ok-list.ensures ∙ ap (λ s. takes_of s op) (c.shelf.ensures ∙ ap (λ h. h.contents) c.self.view_is) in
    let none : is_some (first_pending g (edges_of op)) ≡ false = sym (ap is_some (c.first_pending.ensures ∙ ap (first_pending g) (c.as_slice.ensures ∙ c.in_ok-edges.ensures))) ∙ sym c.is_some.ensures ∙ c.if-is_some.false in
    subst (λ l. AreFree g.pend (edges_in l)) (sym list_is) (free_taken g op none)
