use Rattle.std.proofs.Common.{ap, sym, ◌∙◌, refl}
use Rattle.first_graph.specs.Maps.{altered}
use Rattle.first_graph.specs.Marks.{with_out_done}
use Rattle.first_graph.proofs.MapLemmas.{altered_none, altered_some}
use Rattle.first_graph.proofs.KeyLemmas.{edges_total, edges_exact}
use Rattle.first_graph.proofs.chains.Chains.mark_out.Goals as goal

pub returns-in_default : goal.returns-in_default
returns-in_default c =
    let same = c.get_mut.follows.holds-at-none in
    let none = altered_none edges_total c.self.inside.kept.entries c.args.key with_out_done (sym c.in_default.ensures.value) in
    rw (← c.self.view_is, same) none

pub returns : goal.returns
returns c =
    altered_some edges_total edges_exact c.self.inside.kept.entries _ c.args.key with_out_done c.in-Some.value.now (sym c.in-Some.ensures.value) ((c.get_mut.follows.holds _).3 (rw (← c.in-Some.ensures.value) refl)).0
    ∙ ap (λ m. altered m c.args.key with_out_done) c.self.view_is
