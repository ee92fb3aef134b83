use Rattle.std.proofs.Common.{◌≡◌, false, ap, ◌∙◌}
use Rattle.statement_run.proofs.Telling.{fetched_more, not_ended, types_kept, way_kept, walks_on, ready_by}
use Rattle.statement_run.specs.Statement.{call_next}
use Rattle.statement_run.specs.Task.{behind}
use Rattle.statement_run.proofs.task.Task.follow.Goals as goal

pub walked-requires-clause-types : goal.walked-requires-clause-types
walked-requires-clause-types c = types_kept c.args.self.now c.requires.asked.0 c.requires.asked.2 c.in-Go-Some-Shown.plan c.in-Go-Some-Shown.walk c.in-Go-Some-Shown.is-0 c.in-Go-Some-Shown.is-1

pub walked-requires-clause-way : goal.walked-requires-clause-way
walked-requires-clause-way c = way_kept c.args.self.now c.requires.asked.0 c.requires.asked.2 c.in-Go-Some-Shown.plan c.in-Go-Some-Shown.walk c.in-Go-Some-Shown.is-0 c.in-Go-Some-Shown.is-1

pub returns-in-Go-Some-Shown-clause-next : goal.returns-in-Go-Some-Shown-clause-next
returns-in-Go-Some-Shown-clause-next c = λ r tells.
    let goes : c.args.self.now.stopped ≡ false = c.requires.asked.2.stopped ∙ not_ended c.requires.asked.0 c.requires.asked.1 c.requires.asked.3 in
    ready_by c.walked.result c.args.id c.args.self.now.parts _ _ (call_next (behind r c.args.answer)) c.walked.ensures.fed
    (ap (λ a. call_next (behind r a)) c.in-Go-Some-Shown.is-2 ∙ walks_on c.args.self.now r tells c.in-Go-Some-Shown.plan c.in-Go-Some-Shown.walk c.in-Go-Some-Shown.is-0 c.in-Go-Some-Shown.is-1 c.in-Go-Some-Shown.view goes)
    c.walked.ensures.ready

pub returns-in_ok-push-in-Fetch-default-Shown-clause-at : goal.returns-in_ok-push-in-Fetch-default-Shown-clause-at
returns-in_ok-push-in-Fetch-default-Shown-clause-at c = λ r tells.
    fetched_more c.args.self.now.bound c.in-Fetch-default-Shown.plan c.args.self.now.views c.push.new.self c.args.self.now.walk r.answers c.args.answer c.in-Fetch-default-Shown.view
    c.in-Fetch-default-Shown.is-0 c.in-Fetch-default-Shown.is-2 c.in_ok-push-in-Fetch-default-Shown.ensures.ok tells.at
