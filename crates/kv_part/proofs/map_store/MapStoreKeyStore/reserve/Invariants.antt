use Rattle.std.proofs.Common.{◌≡◌, List, ℕ, true, take}
use Rattle.kv_part.specs.Store.{HasPlaces}
use Rattle.kv_part.specs.MapStore.{contents, has_place_for}
use Rattle.kv_part.proofs.map_store.MapStoreKeyStore.reserve.Given as goal

-- places stay, no value changes, and the writes so far have places
abbrev pub invariant-loop-write : goal.invariant-loop-write
invariant-loop-write l = record {
  made : HasPlaces (has_place_for l.self) (take l.write-index l.write-items);
  kept : (key : List ℕ) → has_place_for l.initial.self key ≡ true → has_place_for l.self key ≡ true;
  same : contents l.self ≡ contents l.initial.self;
}
