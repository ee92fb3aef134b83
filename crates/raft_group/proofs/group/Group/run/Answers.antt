use Rattle.std.proofs.Common.{◌≡◌, ◌+◌, [], ◌∷◌, ◌++◌, take, ap, sym, subst, ◌∙◌}
use Rattle.std.proofs.lemmas.List.{take_more}
use Rattle.raft_group.specs.Group as definition
use Rattle.raft_group.specs.Held.{Holds}
use Rattle.raft_group.proofs.Complete as complete
use Rattle.raft_group.proofs.Runs.{runs_on}
use Rattle.raft_group.proofs.Safety as safety
use Rattle.raft_group.proofs.group.Group.run.Goals as goal

pub loop-event-preserved : goal.loop-event-preserved
loop-event-preserved c =
    let first = c.args.first.now in
    let events = c.as_slice-event-items.result.now in
    let i = c.loop-event.event-index in
    let event = c.event-item.result in
    let e : definition.run first (take (i + 1) events) ≡ definition.after (definition.run first (take i events)) event =
    ap (definition.run first) (take_more events i event c.loop-event-test.true ∙ ap (λ x. take i events ++ x ∷ []) (sym c.event-item.is)) ∙ runs_on first (take i events) event in
    record {
      is = subst (Holds c.take.new.self) (sym e) (c.in_ok-take.ensures.group (definition.run first (take i events)) c.loop-event.invariant.is);
      sent = c.in_ok-take.ensures.sent;
    }

pub returns-clause-facts : goal.returns-clause-facts
returns-clause-facts c = safety.safe_always c.args.first.now c.in_ok-group.ensures.first c.args.events.now

pub returns-clause-grows : goal.returns-clause-grows
returns-clause-grows c = complete.only_grows c.args.first.now

pub returns-clause-complete : goal.returns-clause-complete
returns-clause-complete c = complete.leaders_are_complete c.args.first.now c.in_ok-group.ensures.first
