use Rattle.std.proofs.Common.{ap, sym, ◌∙◌}
use Rattle.kv_part.proofs.PlaceLemmas.{value_in, get-stored}
use Rattle.kv_part.proofs.map_store.MapStoreKeyStore.get.Goals as goal

pub returns-in_default : goal.returns-in_default
returns-in_default c = ap value_in c.in_default.ensures.value ∙ sym (get-stored (λ k. k.items) c.args.self.now.places.entries c.args.key.now)

pub returns-in_default-place : goal.returns-in_default-place
returns-in_default-place c =
    let read = ap value_in c.in-Some.ensures.value in
    let known = get-stored (λ k. k.items) c.args.self.now.places.entries c.args.key.now in
    cc

pub returns : goal.returns
returns c =
    let read = ap value_in c.in-Some.ensures.value in
    let known = get-stored (λ k. k.items) c.args.self.now.places.entries c.args.key.now in
    cc
