-- What a `MapStore` means.
use Rattle.std.specs.Prelude.{ℕ, Bool, List}
use Rattle.kv_part.specs.declared.map_store.MapStore.{MapStore}
use Rattle.kv_part.specs.Store.{Contents}
use Rattle.kv_part.specs.Places.{stored, is_placed}

-- the places that have a value
abbrev pub contents : MapStore → Contents
contents store = stored (λ key. key.items) store.places.entries

-- whether there is a place for the key
abbrev pub has_place_for : MapStore → List ℕ → Bool
has_place_for store key = is_placed (λ k. k.items) store.places.entries key
