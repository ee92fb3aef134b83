use Rattle.std.proofs.Common.{◌≡◌, ◌∷◌, Some, None, ap, sym, subst, ◌∙◌}
use Rattle.std.specs.List.{AllByRecursion}
use Rattle.statement_run.specs.Statement.{unended, call_next}
use Rattle.statement_run.specs.Call.{IsReady, unnamed}
use Rattle.statement_run.specs.Kept.{noted_in, lines_waiting}
use Rattle.statement_run.specs.Task.{fresh}
use Rattle.statement_run.specs.Waiting.{Waits, fresh_all}
use Rattle.statement_run.proofs.Noting.{noted_passed}
use Rattle.statement_run.proofs.Rows.{passed, found}
use Rattle.statement_run.proofs.first.first_of.Goals as goal

pub returns-in-Some-first-clause-some : goal.returns-in-Some-first-clause-some
returns-in-Some-first-clause-some c =
    let all : AllByRecursion Waits (c.in-Some.next ∷ c.pop_front.new.self.items) = subst (AllByRecursion Waits) c.in-Some.ensures.items c.loop-next.invariant.1 in
    let ready : IsReady unnamed c.in-Some.next.task.parts (call_next (fresh c.in-Some.next.task)) (Some c.in-Some-first.begun) =
    subst (IsReady unnamed c.in-Some.next.task.parts (call_next (fresh c.in-Some.next.task))) c.in-Some-first.is all.0.first in
    found c.args.id c.args.waiting.now.items c.in-Some.next.task c.in-Some-first.begun c.named.result c.pop_front.new.self.items
    (ap (λ ws. unended (fresh_all ws)) (sym c.in-Some.ensures.items) ∙ c.loop-next.invariant.0)
    all.0.task
    ready
    (c.named.ensures (record { parts = c.in-Some.next.task.parts; op = c.in-Some-first.begun.call.op }) ready.1)
    all.1

pub loop-next-preserved : goal.loop-next-preserved
loop-next-preserved c =
    let task = c.in-Some.next.task in
    let rest = c.pop_front.new.self.items in
    let all : AllByRecursion Waits (c.in-Some.next ∷ rest) = subst (AllByRecursion Waits) c.in-Some.ensures.items c.loop-next.invariant.1 in
    let none : call_next (fresh task) ≡ None = subst (IsReady unnamed task.parts (call_next (fresh task))) c.in_default-first.is all.0.first in (
      sym (passed task rest none) ∙ ap (λ ws. unended (fresh_all ws)) (sym c.in-Some.ensures.items) ∙ c.loop-next.invariant.0,
      all.1,
      ap (noted_in (lines_waiting rest) (fresh_all rest)) c.fill.ensures
          ∙ noted_passed task rest c.ended.result c.loop-next.lines none (c.ended.ensures (fresh task) all.0.task)
          ∙ ap (λ ws. noted_in (lines_waiting ws) (fresh_all ws) c.loop-next.lines) (sym c.in-Some.ensures.items)
          ∙ c.loop-next.invariant.2,
    )
