use Rattle.std.proofs.Common.{◌≡◌, List, ℕ}
use Rattle.std.specs.Vec.Iter.{into_iter_items}
use Rattle.kv_part.specs.Store.{HasPlaces, written}
use Rattle.kv_part.specs.MapStore.{contents, has_place_for}
use Rattle.kv_part.proofs.map_store.MapStoreKeyStore.write.Given as goal

-- the writes that are left have places, and make of the map what all of them make of the first
abbrev pub invariant-loop-write : goal.invariant-loop-write
invariant-loop-write l = record {
  can : (goal.iterator-loop-write).can_next l.write-iterator;
  finite : (goal.iterator-loop-write).is_finite l.write-iterator;
  placed : HasPlaces (has_place_for l.self) (into_iter_items l.write-iterator);
  done : written (contents l.self) (into_iter_items l.write-iterator) ≡ written (contents l.fn.self) l.fn.batch;
  places : (key : List ℕ) → has_place_for l.self key ≡ has_place_for l.fn.self key;
}
