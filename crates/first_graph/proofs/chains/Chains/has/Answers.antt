use Rattle.std.proofs.Common.{ap, sym, ◌∙◌}
use Rattle.std.specs.Option.{is_some}
use Rattle.std.specs.FinMap.{get}
use Rattle.first_graph.proofs.MapLemmas.{get_made}
use Rattle.first_graph.proofs.KeyLemmas.{edges_total}
use Rattle.first_graph.proofs.chains.Chains.has.Goals as goal

pub returns : goal.returns
returns c = c.contains_key.ensures ∙ ap is_some (sym (get_made edges_total c.self.inside.kept.entries c.args.key)) ∙ ap (λ m. is_some (get m c.args.key)) c.self.view_is
