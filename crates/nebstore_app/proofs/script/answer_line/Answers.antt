use Rattle.std.proofs.Common.{[], ◌∷◌, List, sym, subst}
use Rattle.first_graph.specs.declared.answer.Answer.{Answer}
use Rattle.nebstore_app.specs.Answering.{AnswersLine, LeavesLine}
use Rattle.nebstore_app.proofs.Results.{if_ok, at_ok, on_err}
use Rattle.nebstore_app.proofs.Answered.{answered_call, left_called, left_stopped}
use Rattle.nebstore_app.proofs.script.answer_line.Goals as goal

pub returns-in_err-answer-in-Call-clause-left : goal.returns-in_err-answer-in-Call-clause-left
returns-in_err-answer-in-Call-clause-left c =
    on_err c.from_residual-in_err-answer-in-Call.result _ (λ e is.
    subst (λ k. (answers : List Answer) × LeavesLine c.args.world.now c.call.new.self k answers) (sym c.in-Call.is)
    ([], left_stopped c.args.world.now c.call.new.self c.in-Call.statement c.in_ok-op-in-Call.op c.in_ok-op-in-Call.ensures c.in_err-answer-in-Call.ensures.stopped))

pub returns-in_ok-answer-in-Call-clause-answered : goal.returns-in_ok-answer-in-Call-clause-answered
returns-in_ok-answer-in-Call-clause-answered c =
    if_ok c.answer_of.result _ (λ a is.
    let made = at_ok c.answer_of.result _ a is c.answer_of.ensures in
    subst (λ k. AnswersLine c.args.world.now c.call.new.self k a) (sym c.in-Call.is)
    (subst (AnswersLine c.args.world.now c.call.new.self _) (sym made)
    (answered_call c.args.world.now c.call.new.self c.in-Call.statement c.in_ok-op-in-Call.op c.in_ok-answer-in-Call.answer c.in_ok-op-in-Call.ensures c.in_ok-answer-in-Call.ensures.called)))

pub returns-in_ok-answer-in-Call-clause-left : goal.returns-in_ok-answer-in-Call-clause-left
returns-in_ok-answer-in-Call-clause-left c =
    on_err c.answer_of.result _ (λ e is.
    subst (λ k. (answers : List Answer) × LeavesLine c.args.world.now c.call.new.self k answers) (sym c.in-Call.is)
    (c.in_ok-answer-in-Call.answer ∷ [], left_called c.args.world.now c.call.new.self c.in-Call.statement c.in_ok-op-in-Call.op c.in_ok-answer-in-Call.answer c.in_ok-op-in-Call.ensures c.in_ok-answer-in-Call.ensures.called))
