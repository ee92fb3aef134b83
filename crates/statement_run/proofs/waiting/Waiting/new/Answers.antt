use Rattle.std.proofs.Common.{sym, subst}
use Rattle.statement_run.specs.Statement.{starting, call_next}
use Rattle.statement_run.specs.Call.{IsReady, unnamed}
use Rattle.statement_run.specs.Task.{Tells, fresh}
use Rattle.statement_run.proofs.waiting.Waiting.new.Goals as goal

pub returns-clause-waits : goal.returns-clause-waits
returns-clause-waits c =
    let own : Tells c.in_ok-task.task (fresh c.in_ok-task.task) = subst (λ s. Tells c.in_ok-task.task (starting s)) c.in_ok-task.ensures.tells.statement c.in_ok-task.ensures.tells in
    record {
      task = own;
      first = subst (λ p. IsReady unnamed p (call_next (fresh c.in_ok-task.task)) c.in_ok-first.first) (sym c.in_ok-task.ensures.parts)
          (subst (λ o. IsReady unnamed c.args.parts o c.in_ok-first.first) (c.in_ok-op.ensures (fresh c.in_ok-task.task) own) c.in_ok-first.ensures);
    }
