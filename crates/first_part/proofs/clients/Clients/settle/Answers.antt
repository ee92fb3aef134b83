use Rattle.std.proofs.Common.{ap, sym, ◌∙◌, refl}
use Rattle.std.specs.Cmp.{nat_cmp_total}
use Rattle.std.proofs.lemmas.Map.Lookups.{exact_unsigned}
use Rattle.first_graph.specs.Maps.{altered}
use Rattle.first_graph.proofs.MapLemmas.{altered_none, altered_some}
use Rattle.first_part.specs.Kept.{settled}
use Rattle.first_part.proofs.clients.Clients.settle.Goals as goal

pub returns-in_default : goal.returns-in_default
returns-in_default c = rw (← c.self.view_is, c.get_mut.follows.holds-at-none) (altered_none nat_cmp_total c.self.inside.kept.entries c.args.id.client (settled c.args.id.number) (sym c.in_default.ensures.value))

pub returns : goal.returns
returns c =
    rw c.settled-outcome.ensures
    (altered_some nat_cmp_total exact_unsigned c.self.inside.kept.entries _ c.args.id.client (settled c.args.id.number) c.in-Some.kept.now (sym c.in-Some.ensures.value) ((c.get_mut.follows.holds _).3 (rw (← c.in-Some.ensures.value) refl)).0
    ∙ ap (λ m. altered m c.args.id.client (settled c.args.id.number)) c.self.view_is)
