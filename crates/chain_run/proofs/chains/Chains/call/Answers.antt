use Rattle.std.proofs.Common.{◌++◌, [], ◌∷◌, refl, ap, ◌∙◌}
use Rattle.std.specs.Prelude.{Some}
use Rattle.std.specs.FinMap.{insert}
use Rattle.std.proofs.lemmas.Result.{on_ok_weaker}
use Rattle.graph_model.specs.declared.graph_step.GStep.TheVariants as step
use Rattle.graph_model.specs.declared.op.Op.{Op}
use Rattle.chain_run.proofs.Calling.{invoked}
use Rattle.chain_run.proofs.chains.Chains.call.Goals as goal

pub returns : goal.returns
returns c = λ parts goes says.
    let held = c.args.self.now in
    let id = c.args.id in
    on_ok_weaker c.push_post.result
    (λ post. invoked held _ parts c.args.part id c.args.op.now c.args.entry goes says
    (c.in_ok-push.ensures.ok ∙ ap (λ (o : Op). held.steps ++ step.Invoke id o ∷ []) c.in_ok-copy.ensures) refl refl refl
    (c.in_ok-put.ensures ∙ ap (λ (o : Op). insert held.callers id.client (record { last = id.number; asks = Some (id, o) })) c.in_ok-copy-2.ensures) post)
    c.push_post.ensures
