use Rattle.std.proofs.Common.{ap, ◌∙◌, Some}
use Rattle.std.specs.FinMap.{insert}
use Rattle.first_graph.proofs.MapLemmas.{made}
use Rattle.first_graph.proofs.KeyLemmas.{calls_total, calls_exact}
use Rattle.first_graph.proofs.book.Book.put.Goals as goal

pub returns-clause-ok : goal.returns-clause-ok
returns-clause-ok c =
    made calls_total calls_exact c.self.inside.kept.entries c.insert.new.self.entries c.args.key (Some c.args.value) c.in_ok-insert.ensures.updates.0
    ∙ ap (λ m. insert m c.args.key c.args.value) c.self.view_is
