use Rattle.std.proofs.Common.{ap, sym, ◌∙◌}
use Rattle.std.specs.FinMap.{get}
use Rattle.std.specs.Cmp.{nat_cmp_total}
use Rattle.first_graph.proofs.MapLemmas.{get_made}
use Rattle.first_part.proofs.clients.Clients.get.Goals as goal

pub returns : goal.returns
returns c = c.get.ensures.value ∙ sym (get_made nat_cmp_total c.self.inside.kept.entries c.args.client) ∙ ap (λ m. get m c.args.client) c.self.view_is
