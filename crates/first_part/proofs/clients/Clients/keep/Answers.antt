use Rattle.std.proofs.Common.{ap, ◌∙◌, Some}
use Rattle.std.specs.FinMap.{insert}
use Rattle.std.specs.Cmp.{nat_cmp_total}
use Rattle.std.proofs.lemmas.Map.Lookups.{exact_unsigned}
use Rattle.first_graph.proofs.MapLemmas.{made}
use Rattle.first_part.proofs.clients.Clients.keep.Goals as goal

pub returns-clause-ok : goal.returns-clause-ok
returns-clause-ok c =
    made nat_cmp_total exact_unsigned c.self.inside.kept.entries c.insert.new.self.entries c.args.client (Some c.args.kept) c.in_ok-insert.ensures.updates.0
    ∙ ap (λ m. insert m c.args.client c.args.kept) c.self.view_is
