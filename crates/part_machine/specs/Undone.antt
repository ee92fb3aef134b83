-- The writes that take writes back.
use Rattle.std.specs.Prelude.{ℕ, List, Option, Some, None, map}
use Rattle.std.specs.FinMap.{get}
use Rattle.kv_part.specs.declared.batch.Write.{Write}
use Rattle.kv_part.specs.declared.batch.Write.TheVariants.{Put, Remove}
use Rattle.kv_part.specs.Store.{Contents, key_of}

-- the write that gives the key this value, or none
abbrev pub giving : List ℕ → Option (List ℕ) → Write
giving key None = Remove key
giving key (Some value) = Put key value

-- for each of the writes the one that gives its key what the map has there
abbrev pub backs : Contents → List Write → List Write
backs m ws = map (λ w. giving (key_of w) (get m (key_of w))) ws
