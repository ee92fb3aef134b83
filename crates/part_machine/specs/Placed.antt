-- Which turns have their places among those of the chains.
use Rattle.std.specs.Prelude.{◌≡◌, ℕ, true, List, [], ◌∷◌, Option, None, Some}
use Rattle.std.specs.Ordering.{nat_cmp}
use Rattle.maps.specs.Places.{has_place}
use Rattle.part_keys.specs.declared.chain.PrimeRec.{PrimeRec}
use Rattle.part_machine.specs.declared.turn.Turn.{Turn}

-- there is a place for a turn's number
abbrev pub HasTurnPlace : List (ℕ × Option PrimeRec) → Option Turn → Type 0
HasTurnPlace places None = Unit {0}
HasTurnPlace places (Some turn) = has_place nat_cmp places turn.at ≡ true

-- the number of a turn, if there is one
abbrev pub numbers_in : Option Turn → List ℕ
numbers_in None = []
numbers_in (Some turn) = turn.at ∷ []
