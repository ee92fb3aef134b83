use Rattle.std.proofs.Common.{ap, sym, ◌∙◌}
use Rattle.graph_model.specs.declared.answer.Answer.TheVariants.{Unknown}
use Rattle.statement_run.specs.Caller.{replied}
use Rattle.statement_run.specs.Kept.{noted_in, lines_waiting}
use Rattle.statement_run.specs.Task.{behind}
use Rattle.statement_run.specs.Waiting.{fresh_all}
use Rattle.statement_run.proofs.ClientLaws.{behind_unknown}
use Rattle.statement_run.proofs.Noting.{noted_ended}
use Rattle.statement_run.proofs.Showing.{busy_of, stopped_free}
use Rattle.statement_run.proofs.client.Client.next_statement.Goals as goal

pub returns-clause-shows : goal.returns-clause-shows
returns-clause-shows c = λ caller s. c.begin.ensures.shows (replied caller Unknown) (stopped_free c.args.self.now caller s c.in-Some.busy (sym c.replace.ensures.value ∙ c.in-Some.is))

pub returns-clause-made : goal.returns-clause-made
returns-clause-made c = λ caller s. c.begin.ensures.made (replied caller Unknown) (stopped_free c.args.self.now caller s c.in-Some.busy (sym c.replace.ensures.value ∙ c.in-Some.is))

pub returns-clause-kept : goal.returns-clause-kept
returns-clause-kept c = λ caller s.
    let some = sym c.replace.ensures.value ∙ c.in-Some.is in
    let here = busy_of c.args.self.now caller s c.in-Some.busy some in
    c.begin.ensures.kept
    ∙ ap (noted_in (lines_waiting c.in-Some.busy.waiting.items) (fresh_all c.in-Some.busy.waiting.items)) c.fill.ensures
    ∙ noted_ended c.args.self.now c.in-Some.busy some caller s Unknown (behind_unknown here.running.statement here.running.answers)
    c.give_up.new.self.line c.give_up.new.self.bound c.ended.result c.give_up.ensures.line c.give_up.ensures.bound
    (c.ended.ensures (behind here.running Unknown) (c.give_up.ensures.told here.running here.tells))
