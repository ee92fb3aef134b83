use Rattle.kv_part.proofs.PlaceLemmas.{set_kept, set_stored}
use Rattle.kv_part.proofs.map_store.set_place.Goals as goal

pub returns-in-Some-clause-set : goal.returns-in-Some-clause-set
returns-in-Some-clause-set c = rw (c.get_mut.follows.holds c.args.value).0 (set_stored (λ k. k.items) c.args.places.now.entries c.args.key.now c.args.value c.requires)

pub returns-in-Some-clause-kept : goal.returns-in-Some-clause-kept
returns-in-Some-clause-kept c = λ other. rw (c.get_mut.follows.holds c.args.value).0 (set_kept (λ k. k.items) c.args.places.now.entries c.args.key.now c.args.value other c.requires)
