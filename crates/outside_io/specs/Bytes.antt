-- What is told of the bytes outside: `Some` bytes, or `None` where nothing is told. What is told stays told.
use Rattle.std.specs.Prelude.{◌≡◌, ℕ, List, [], ◌++◌, take, Option, IfSome}
use Rattle.std.specs.Option.{option_map}

-- these bytes, and then those that are told
abbrev pub before_told : List ℕ → Option (List ℕ) → Option (List ℕ)
before_told bytes told = option_map (λ rest. bytes ++ rest) told

-- the bytes that are told, and then these
abbrev pub behind_told : Option (List ℕ) → List ℕ → Option (List ℕ)
behind_told told bytes = option_map (λ front. front ++ bytes) told

-- the bytes were taken from the front of those that are left
abbrev pub TakesFront : Option (List ℕ) → List ℕ → Option (List ℕ) → Type 0
TakesFront old bytes new = old ≡ before_told bytes new

-- the bytes were written behind all others
abbrev pub Appends : Option (List ℕ) → List ℕ → Option (List ℕ) → Type 0
Appends old bytes new = new ≡ behind_told old bytes

-- some front of the bytes was written, and nothing else
abbrev pub AppendsFront : Option (List ℕ) → List ℕ → Option (List ℕ) → Type 0
AppendsFront old bytes new = (n : ℕ) × Appends old (take n bytes) new

-- where the bytes left are told, none is left
abbrev pub IsEnded : Option (List ℕ) → Type 0
IsEnded told = IfSome told (λ rest. rest ≡ [])
