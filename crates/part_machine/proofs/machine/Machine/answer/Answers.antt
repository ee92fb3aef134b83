use Rattle.std.proofs.Common.{length, refl, ap, sym, ◌∙◌}
use Rattle.std.specs.Option.{option_map}
use Rattle.std.proofs.lemmas.Bool.{ltb-true}
use Rattle.std.proofs.lemmas.Option.{slice_get_past, slice_get_read}
use Rattle.part_machine.specs.declared.plan.Plan.{Plan}
use Rattle.part_machine.proofs.Foreseen.{answer_at}
use Rattle.part_machine.proofs.machine.Machine.answer.Goals as goal

pub returns-in_default : goal.returns-in_default
returns-in_default g c p entries is =
    let plans = c.args.self.now.plans.items in
    ap (option_map (λ (plan : Plan). plan.answer)) (sym (slice_get_past plans c.args.place c.in_default.ensures.item.3)) ∙ answer_at _ _ p entries c.args.self.now is c.args.place

pub returns : goal.returns
returns g c p entries is =
    let plans = c.args.self.now.plans.items in
    let item = c.in-Some.ensures.item in
    let read = slice_get_read plans (length plans) c.args.place _ refl (ltb-true c.args.place (length plans) (sym item.0)) item.1 in
    ap (option_map (λ (plan : Plan). plan.answer)) (sym read) ∙ answer_at _ _ p entries c.args.self.now is c.args.place
