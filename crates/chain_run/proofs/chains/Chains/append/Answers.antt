use Rattle.std.proofs.Common.{◌≡◌, ◌+◌, suc, length, refl, ap, ◌∙◌, arith}
use Rattle.std.proofs.lemmas.Result.{on_ok_weaker}
use Rattle.part_fold.specs.State.{part_of}
use Rattle.part_rules.specs.Folded.{folded}
use Rattle.part_rules.specs.Part.{Part}
use Rattle.chain_run.specs.Shows.{list_in}
use Rattle.chain_run.specs.Steps.{item_writes}
use Rattle.chain_run.proofs.Decides.{next_is, appended}
use Rattle.chain_run.proofs.chains.Chains.append.Goals as goal

pub returns : goal.returns
returns c =
    let held = c.args.self.now in
    let parts = c.args.parts in
    let p = c.args.part in
    let x = c.args.item in
    let decided = list_in held.decided p in
    let index = length c.list_of-decided.result.now + 1 in
    let at : index ≡ suc (length decided) = omega (arith, ap length c.list_of-decided.ensures) in
    let part : part_of c.in_ok-machine.machine ≡ folded parts decided = c.in_ok-machine.ensures ∙ ap (folded parts) c.list_of-decided.ensures in
    let wrote = c.item_writes-wrote.ensures ∙ ap (λ (m : Part). item_writes x m) part in
    on_ok_weaker c.push_to.result
    (λ put. appended held _ parts p c.args.term x c.in_ok-said.said (part_of c.apply.new.self) (next_is parts index decided x (part_of c.in_ok-machine.machine) (part_of c.apply.new.self) c.in_ok-said.said at part c.in_ok-said.ensures)
    (c.in_ok-push_steps.ensures (folded parts decided) wrote) put refl refl refl refl)
    c.push_to.ensures
