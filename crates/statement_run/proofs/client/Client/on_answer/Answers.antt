use Rattle.std.proofs.Common.{◌==◌, ap, sym, ◌∙◌}
use Rattle.std.proofs.lemmas.Bool.{and_parts}
use Rattle.statement_run.specs.Caller.{fits}
use Rattle.statement_run.proofs.client.Client.on_answer.Goals as goal

pub go_on-requires-clause-open : goal.go_on-requires-clause-open
go_on-requires-clause-open c =
    let fit = and_parts (c.args.number == c.in-Some.busy.call.id.number) (fits c.args.answer.now c.in-Some.busy.call.op) (sym c.is_answered.ensures ∙ c.if-not-is_answered.false) in
    (c.in-Some.busy, c.in-Some.is, ap (λ a. fits a c.in-Some.busy.call.op) c.in_ok-told.ensures ∙ fit.1)
