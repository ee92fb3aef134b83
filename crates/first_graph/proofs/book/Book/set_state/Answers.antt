use Rattle.std.proofs.Common.{ap, sym, ◌∙◌, refl}
use Rattle.first_graph.specs.Maps.{altered}
use Rattle.first_graph.specs.Marks.{with_state}
use Rattle.first_graph.proofs.MapLemmas.{altered_none, altered_some}
use Rattle.first_graph.proofs.KeyLemmas.{calls_total, calls_exact}
use Rattle.first_graph.proofs.book.Book.set_state.Goals as goal

pub returns-in_default : goal.returns-in_default
returns-in_default c =
    let same = c.get_mut.follows.holds-at-none in
    let none = altered_none calls_total c.self.inside.kept.entries c.args.key (with_state c.args.state) (sym c.in_default.ensures.value) in
    rw (← c.self.view_is, same) none

pub returns : goal.returns
returns c =
    altered_some calls_total calls_exact c.self.inside.kept.entries _ c.args.key (with_state c.args.state) c.in-Some.value.now (sym c.in-Some.ensures.value) ((c.get_mut.follows.holds _).3 (rw (← c.in-Some.ensures.value) refl)).0
    ∙ ap (λ m. altered m c.args.key (with_state c.args.state)) c.self.view_is
