use Rattle.std.proofs.Common.{◌≡◌, ◌<◌, length, [], sym, subst}
use Rattle.nebstore_app.specs.World.{World, next_call}
use Rattle.nebstore_app.specs.Calls.{HasCalled, HasStopped}
use Rattle.nebstore_app.proofs.Calling.{IsMade, made, still_made, has_called, stopped_made, nobody_left}
use Rattle.nebstore_app.proofs.Results.{if_ok, at_ok, on_err, at_err}
use Rattle.nebstore_app.proofs.Weights.{weight, lighter}
use Rattle.nebstore_app.proofs.Refines.{due_when_quiet}
use Rattle.nebstore_app.proofs.world.World.call.Goals as goal

pub loop-self-init : goal.loop-self-init
loop-self-init c = subst (λ (v : World). IsMade c.args.self.now v c.args.op) (sym c.in_ok-invoke.ensures.ok) (made c.args.self.now c.args.op c.requires.quiet (c.requires.served (next_call c.args.self.now)))

pub loop-self-smaller : goal.loop-self-smaller
loop-self-smaller c =
    subst (λ (v : World). weight v.waiting < weight c.loop-self.self.waiting) (sym c.in_ok-deliver.ensures.ok)
    (lighter c.loop-self.self (length c.loop-self.self.passed) (c.is_busy.ensures.0 c.loop-self-test.true))

pub loop-self-preserved : goal.loop-self-preserved
loop-self-preserved c =
    subst (λ (v : World). IsMade c.args.self.now v c.args.op) (sym c.in_ok-deliver.ensures.ok)
    (still_made c.args.self.now c.loop-self.self c.args.op c.loop-self.invariant (c.is_busy.ensures.0 c.loop-self-test.true))

pub returns-in_err-deliver-clause-stopped : goal.returns-in_err-deliver-clause-stopped
returns-in_err-deliver-clause-stopped c =
    on_err c.from_residual-in_err-deliver.result _ (λ e is.
    subst (λ (v : World). HasStopped c.args.self.now v c.args.op) (sym c.in_err-deliver.ensures.err) (stopped_made c.args.self.now c.loop-self.self c.args.op c.loop-self.invariant))

pub reply-requires : goal.reply-requires
reply-requires c =
    let nobody = nobody_left c.loop-self.self (λ busy. let some = c.is_busy.ensures.1 busy in let none = c.loop-self-test.false in cc) in
    due_when_quiet c.loop-self.self c.loop-self.invariant.reached c.loop-self.invariant.calling nobody

pub returns-clause-called : goal.returns-clause-called
returns-clause-called c =
    let nobody : c.loop-self.self.waiting ≡ [] = nobody_left c.loop-self.self (λ busy. let some = c.is_busy.ensures.1 busy in let none = c.loop-self-test.false in cc) in
    if_ok c.reply.result _ (λ a is.
    subst (λ (v : World). HasCalled c.args.self.now v c.args.op a) (sym (at_ok c.reply.result _ a is c.reply.ensures.ok))
    (has_called c.args.self.now c.loop-self.self c.args.op a c.loop-self.invariant nobody (at_ok c.reply.result _ a is c.reply.ensures.answer)))

pub returns-clause-stopped : goal.returns-clause-stopped
returns-clause-stopped c =
    on_err c.reply.result _ (λ e is.
    subst (λ (v : World). HasStopped c.args.self.now v c.args.op) (sym (at_err c.reply.result _ e is c.reply.ensures.err)) (stopped_made c.args.self.now c.loop-self.self c.args.op c.loop-self.invariant))
