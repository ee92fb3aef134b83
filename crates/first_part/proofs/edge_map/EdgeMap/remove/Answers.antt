use Rattle.std.proofs.Common.{ap, ◌∙◌, None}
use Rattle.std.specs.FinMap.{remove}
use Rattle.first_graph.proofs.MapLemmas.{made}
use Rattle.first_graph.proofs.KeyLemmas.{edges_total, edges_exact}
use Rattle.first_part.proofs.edge_map.EdgeMap.remove.Goals as goal

pub returns : goal.returns
returns g c =
    made edges_total edges_exact c.self.inside.kept.entries c.remove.new.self.entries c.args.edge None c.remove.ensures.updates.0
    ∙ ap (λ m. remove m c.args.edge) c.self.view_is
