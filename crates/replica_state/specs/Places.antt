-- What stands at numbers, in places: a number may have a place with nothing in it.
use Rattle.std.specs.Prelude.{ℕ, List, Option}
use Rattle.std.specs.Option.{unwrap_or}
use Rattle.std.specs.Ordering.{nat_cmp}
use Rattle.std.specs.FinMap.{FinMap, empty, get}
use Rattle.maps.specs.Lists.{with_all}

-- the values by number
abbrev pub standing : {V : Type 0} → List (ℕ × Option V) → FinMap nat_cmp V
standing places = with_all empty places

-- what stands at a number
abbrev pub held : {V : Type 0} → List (ℕ × Option V) → ℕ → Option V
held places v = get (standing places) v

-- the number that stands there, 0 where none does
abbrev pub number_held : List (ℕ × Option ℕ) → ℕ → ℕ
number_held places v = unwrap_or (held places v) 0
