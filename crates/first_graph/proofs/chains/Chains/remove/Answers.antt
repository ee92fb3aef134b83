use Rattle.std.proofs.Common.{ap, ◌∙◌, None}
use Rattle.std.specs.FinMap.{remove}
use Rattle.first_graph.proofs.MapLemmas.{made}
use Rattle.first_graph.proofs.KeyLemmas.{edges_total, edges_exact}
use Rattle.first_graph.proofs.chains.Chains.remove.Goals as goal

pub returns : goal.returns
returns c =
    made edges_total edges_exact c.self.inside.kept.entries c.remove.new.self.entries c.args.key None c.remove.ensures.updates.0
    ∙ ap (λ m. remove m c.args.key) c.self.view_is
