use Rattle.graph_model.specs.declared.answer.Answer.TheVariants.{Unknown}
use Rattle.statement_run.proofs.Showing.{said_made}
use Rattle.statement_run.proofs.client.Client.expire.Goals as goal

pub returns-clause-made : goal.returns-clause-made
returns-clause-made c = λ caller s. said_made c.args.self.now caller s c.in-Some-busy.busy c.in-Some-busy.is Unknown _ _ c.next_statement.result (c.next_statement.ensures.made caller s)
