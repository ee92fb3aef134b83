-- Digits only raise a number.
use Rattle.std.proofs.Common.{◌≡◌, ℕ, ◌+◌, ◌-◌, ◌*◌, ◌<◌, ◌≤◌, Bool, false, List, [], ◌∷◌, Some, None, cond, refl, arith}
use Rattle.std.specs.Prelude.{nat_le}
use Rattle.std.proofs.lemmas.Bool.{lt-leb}
use Rattle.ngql_parser.specs.Numbers.{magnitude, up_to}

pub magnitude_rises : (n : ℕ) (digits : List ℕ) → n ≤ magnitude n digits
magnitude_rises n [] = omega arith
magnitude_rises n (b ∷ digits) = let h = magnitude_rises (n * 10 + (b - 48)) digits in omega arith

-- a number that is too large is none
none_by : (b : Bool) (n : ℕ) → b ≡ false → cond b (Some n) None ≡ None
none_by b n e = rw e refl

pub none_over : (most n : ℕ) → most < n → up_to most n ≡ None
none_over most n h = none_by (nat_le n most) n (lt-leb n most h)

pub too_large : (most n : ℕ) (digits : List ℕ) → most < n → up_to most (magnitude n digits) ≡ None
too_large most n digits h = let r = magnitude_rises n digits in none_over most (magnitude n digits) (omega arith)
