use Rattle.std.proofs.Common.{ap, ◌∙◌, Some}
use Rattle.std.specs.FinMap.{insert}
use Rattle.first_graph.proofs.MapLemmas.{made}
use Rattle.first_graph.proofs.KeyLemmas.{edges_total, edges_exact}
use Rattle.first_graph.proofs.chains.Chains.put.Goals as goal

pub returns-clause-ok : goal.returns-clause-ok
returns-clause-ok c =
    made edges_total edges_exact c.self.inside.kept.entries c.insert.new.self.entries c.args.key (Some c.args.value) c.in_ok-insert.ensures.updates.0
    ∙ ap (λ m. insert m c.args.key c.args.value) c.self.view_is
