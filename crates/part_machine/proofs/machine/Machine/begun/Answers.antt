use Rattle.std.proofs.Common.{Option, length, refl, ap, sym, ◌∙◌}
use Rattle.std.specs.Option.{option_map, option_and_then}
use Rattle.std.proofs.lemmas.Bool.{ltb-true}
use Rattle.std.proofs.lemmas.Option.{slice_get_past, slice_get_read}
use Rattle.part_keys.specs.declared.chain.PrimeRec.{PrimeRec}
use Rattle.part_machine.specs.Ahead.{plan_begun}
use Rattle.part_machine.proofs.Foreseen.{begun_at}
use Rattle.part_machine.proofs.machine.Machine.begun.Goals as goal

pub returns-in_default : goal.returns-in_default
returns-in_default g c p entries is =
    let plans = c.args.self.now.plans.items in
    ap (option_and_then (λ (begun : Option PrimeRec). begun)) (ap (option_map plan_begun) (sym (slice_get_past plans c.args.place c.in_default.ensures.item.3)) ∙ begun_at _ _ p entries c.args.self.now is c.args.place)

pub returns : goal.returns
returns g c p entries is =
    let plans = c.args.self.now.plans.items in
    let item = c.in-Some.ensures.item in
    let read = slice_get_read plans (length plans) c.args.place _ refl (ltb-true c.args.place (length plans) (sym item.0)) item.1 in
    c.begun_in.ensures ∙ ap (option_and_then (λ (begun : Option PrimeRec). begun)) (ap (option_map plan_begun) (sym read) ∙ begun_at _ _ p entries c.args.self.now is c.args.place)
