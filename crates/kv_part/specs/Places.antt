-- Keys with their places, as a tree keeps them: a place holds a value or none.
use Rattle.std.specs.Prelude.{ℕ, Bool, is_some, List, [], ◌∷◌, Option, Some, None}
use Rattle.std.specs.FinMap.{empty, insert, remove}
use Rattle.std.specs.BTreeMap.{is_at}
use Rattle.std.specs.Map.{lookup}
use Rattle.byte_fields.specs.Order.{bytes_cmp}
use Rattle.kv_part.specs.Store.{Contents}

-- the map with w at the key; `None` takes it out
abbrev pub with_at : Contents → List ℕ → Option (List ℕ) → Contents
with_at m key None = remove m key
with_at m key (Some value) = insert m key value

-- what the entries mean: a place without a value is no pair
abbrev pub stored : {K : Type 0} → (K → List ℕ) → List (K × Option (List ℕ)) → Contents
stored bytes [] = empty
stored bytes (e ∷ es) = with_at (stored bytes es) (bytes e.0) e.1

-- the place at a key
abbrev pub place_at : {K : Type 0} → (K → List ℕ) → List (K × Option (List ℕ)) → List ℕ → Option (Option (List ℕ))
place_at bytes es key = lookup (is_at (λ k. bytes_cmp key (bytes k))) es

-- whether there is a place at a key
abbrev pub is_placed : {K : Type 0} → (K → List ℕ) → List (K × Option (List ℕ)) → List ℕ → Bool
is_placed bytes es key = is_some (place_at bytes es key)
