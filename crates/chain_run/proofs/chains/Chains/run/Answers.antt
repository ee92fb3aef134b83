use Rattle.std.proofs.Common.{◌≡◌, ◌+◌, [], ◌∷◌, ◌++◌, take, ap, sym, subst, ◌∙◌, List, arith}
use Rattle.std.proofs.lemmas.List.{take_more, take_all}
use Rattle.chain_world.specs.Outside.{IsGraphRun, outside}
use Rattle.graph_model.specs.declared.graph_step.GStep.{GStep}
use Rattle.chain_world.specs.State.{Chains as World}
use Rattle.chain_world.specs.World as definition
use Rattle.chain_world.proofs.Outside as runs
use Rattle.chain_run.specs.Shows.{world_of}
use Rattle.chain_run.proofs.Causes.{have_causes}
use Rattle.chain_run.proofs.chains.Chains.run.Goals as goal

pub loop-event-preserved : goal.loop-event-preserved
loop-event-preserved c =
    let ids = c.args.ids in
    let parts = c.args.parts in
    let events = c.as_slice-event-items.result.now in
    let i = c.loop-event.event-index in
    let event = c.event-item.result in
    let e : definition.run ids parts (take (i + 1) events) ≡ definition.after ids parts (definition.run ids parts (take i events)) event =
    ap (definition.run ids parts) (take_more events i event c.loop-event-test.true ∙ ap (λ x. take i events ++ x ∷ []) (sym c.event-item.is)) ∙ runs.runs_on ids parts (take i events) event in
    c.in_ok-take.ensures ∙ ap (λ w. definition.after ids parts w event) c.loop-event.invariant ∙ sym e

pub returns-clause-causes : goal.returns-clause-causes
returns-clause-causes c =
    let ids = c.args.ids in
    let parts = c.args.parts in
    let events = c.args.events.now in
    let items = c.as_slice-event-items.result.now in
    let is : world_of c.loop-event.chains ≡ definition.run ids parts events =
    c.loop-event.invariant ∙ ap (definition.run ids parts) (take_all c.loop-event.event-index items (omega (arith, c.loop-event-test.false)) ∙ c.as_slice-event-items.ensures) in
    have_causes ids parts events c.loop-event.chains is

pub returns-clause-run : goal.returns-clause-run
returns-clause-run c =
    let items = c.as_slice-event-items.result.now in
    c.loop-event.invariant ∙ ap (definition.run c.args.ids c.args.parts) (take_all c.loop-event.event-index items (omega (arith, c.loop-event-test.false)) ∙ c.as_slice-event-items.ensures)

pub returns-clause-refines : goal.returns-clause-refines
returns-clause-refines c =
    let ids = c.args.ids in
    let parts = c.args.parts in
    let events = c.args.events.now in
    let items = c.as_slice-event-items.result.now in
    let is : world_of c.loop-event.chains ≡ definition.run ids parts events =
    c.loop-event.invariant ∙ ap (definition.run ids parts) (take_all c.loop-event.event-index items (omega (arith, c.loop-event-test.false)) ∙ c.as_slice-event-items.ensures) in
    subst (λ (steps : List GStep). IsGraphRun steps (outside ids parts events)) (sym (ap (λ (w : World). w.ledger.steps) is)) (runs.chains_refine ids parts events)
