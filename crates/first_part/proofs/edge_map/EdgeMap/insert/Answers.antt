use Rattle.std.proofs.Common.{ap, ◌∙◌, Some}
use Rattle.std.specs.FinMap.{insert}
use Rattle.first_graph.proofs.MapLemmas.{made}
use Rattle.first_graph.proofs.KeyLemmas.{edges_total, edges_exact}
use Rattle.first_part.proofs.edge_map.EdgeMap.insert.Goals as goal

pub returns-clause-ok : goal.returns-clause-ok
returns-clause-ok g c =
    made edges_total edges_exact c.self.inside.kept.entries c.insert.new.self.entries c.args.edge (Some c.args.value) c.in_ok-insert.ensures.updates.0
    ∙ ap (λ m. insert m c.args.edge c.args.value) c.self.view_is
