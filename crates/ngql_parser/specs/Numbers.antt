-- Whole numbers.
use Rattle.std.specs.Prelude.{ℕ, ℤ, pos, neg_ℤ, ◌+◌, ◌-◌, ◌*◌, ◌^◌, ◌==◌, List, [], ◌∷◌, Option, Some, None, nat_le, if◌then◌else◌}

-- the number that digits write behind those of n
abbrev pub magnitude : ℕ → List ℕ → ℕ
magnitude n [] = n
magnitude n (b ∷ digits) = magnitude (n * 10 + (b - 48)) digits

-- a number of at most so much
abbrev pub up_to : ℕ → ℕ → Option ℕ
up_to most n = if nat_le n most then Some n else None

abbrev pub negative_of : Option ℕ → Option ℤ
negative_of None = None
negative_of (Some n) = Some (neg_ℤ (pos n))

abbrev pub positive_of : Option ℕ → Option ℤ
positive_of None = None
positive_of (Some n) = Some (pos n)

-- the number that digits write, with a `-` directly before them where it is negative, if it fits 64 bits
abbrev pub number_of : List ℕ → Option ℤ
number_of [] = None
number_of (b ∷ bytes) =
    if b == 45 then negative_of (up_to (2 ^ 63) (magnitude 0 bytes))
    else positive_of (up_to (2 ^ 63 - 1) (magnitude 0 (b ∷ bytes)))
