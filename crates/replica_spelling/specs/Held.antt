-- What holds of each value of a map.
use Rattle.std.specs.Prelude.{◌≡◌, Some}
use Rattle.std.specs.FinMap.{FinMap, get}
use Rattle.std.specs.declared.cmp.Ordering.{Ordering}

-- this holds of each key and what the map has there
abbrev pub AllHeld : {K X : Type 0} {R : K → K → Ordering} → (K → X → Type 0) → FinMap R X → Type 0
AllHeld {K} {X} P m = (k : K) (x : X) → get m k ≡ Some x → P k x
