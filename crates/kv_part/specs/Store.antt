-- A store as a finite map from bytes to bytes.
use Rattle.std.specs.Prelude.{◌≡◌, ℕ, Bool, true, List, [], ◌∷◌, nat_eq}
use Rattle.std.specs.FinMap.{FinMap, entries, insert, remove}
use Rattle.std.specs.List.{AllByRecursion, filter, starts_with}
use Rattle.byte_fields.specs.Order.{bytes_cmp}
use Rattle.kv_part.specs.declared.batch.Write.{Write}
use Rattle.kv_part.specs.declared.batch.Write.TheVariants.{Put, Remove}

-- what a store has: of each key its value
abbrev pub Contents : Type 0
Contents = FinMap bytes_cmp (List ℕ)

-- the key that a write writes
abbrev pub key_of : Write → List ℕ
key_of (Put key value) = key
key_of (Remove key) = key

-- the map after one write
abbrev pub after : Contents → Write → Contents
after m (Put key value) = insert m key value
after m (Remove key) = remove m key

-- the map after writes, one after the other
abbrev pub written : Contents → List Write → Contents
written m [] = m
written m (w ∷ ws) = written (after m w) ws

-- there is a place for the key of each write
abbrev pub HasPlaces : (List ℕ → Bool) → List Write → Type 0
HasPlaces has_place ws = AllByRecursion (λ w. has_place (key_of w) ≡ true) ws

-- the pairs whose keys begin with the prefix, by rising key
abbrev pub under : List ℕ → Contents → List (List ℕ × List ℕ)
under prefix m = filter (λ pair. starts_with nat_eq pair.0 prefix) (entries m)
