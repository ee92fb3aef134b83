-- What can be told from its opposite: joined, repeated, as a test, as a range.
use Rattle.std.proofs.Common.{◌≡◌, ℕ, ℤ, ◌^◌, ◌<ℤ◌, FitsSigned, Bool, true, false, T, List, [], ◌∷◌, refl, sym, subst}
use Rattle.std.specs.Int.{Width}
use Rattle.std.specs.Bool.{Decides}
use Rattle.std.specs.List.{AllByRecursion}
use Rattle.std.specs.Str.{IsUtf8, is_utf8}
use Rattle.std.proofs.Math.Decide.{map_dec, dec_lt}
use Rattle.std.proofs.lemmas.Str.{is_utf8-from_IsUtf8, IsUtf8-from_is_utf8}
use Rattle.std.proofs.lemmas.Slice.Eq.{bytes_eq-Decides}
use Rattle.std.specs.Str.{bytes_eq}
use lib.Signed.{mag, lt_z}
use mir.Val.{hbits}

-- it holds, or it doesn't
pub dec_holds : Dec (Unit {0})
dec_holds = yes tt

-- it never holds
pub dec_never : Dec ⊥
dec_never = no (λ never. never)

-- both hold, or one doesn't
pub dec_both : {A B : Type 0} → Dec A → Dec B → Dec (A × B)
dec_both (yes a) (yes b) = yes (a, b)
dec_both (yes a) (no none) = no (λ both. none both.1)
dec_both (no none) b = no (λ both. none both.0)

-- it holds of each in a list, or not of one
pub dec_each : {X : Type 0} {P : X → Type 0} → ((x : X) → Dec (P x)) → (xs : List X) → Dec (AllByRecursion P xs)
dec_each one [] = yes tt
dec_each one (x ∷ xs) = dec_both (one x) (dec_each one xs)

-- a test is true, or it isn't
pub dec_true : (b : Bool) → Dec (b ≡ true)
dec_true true = yes refl
dec_true false = no (λ e. absurd cc)

-- what a test decides can be told
pub dec_test : {P : Type 0} (b : Bool) → Decides b P → Dec P
dec_test b is = map_dec is.0 is.1 (dec_true b)

-- a signed number fits its width, or it doesn't
pub dec_signed : (w : Width) (z : ℤ) → Dec (FitsSigned w z)
dec_signed w z = map_dec (λ small. record { sfits = small }) (λ fits. fits.sfits) (dec_lt (mag z) (2 ^ hbits w))

-- bytes are UTF-8, or they aren't
pub dec_utf8 : (bytes : List ℕ) → Dec (IsUtf8 bytes)
dec_utf8 bytes = map_dec (IsUtf8-from_is_utf8 bytes) (is_utf8-from_IsUtf8 bytes) (dec_true (is_utf8 bytes))

-- two lists of bytes are the same, or they aren't
pub dec_same : (xs ys : List ℕ) → Dec (xs ≡ ys)
dec_same xs ys = dec_test (bytes_eq xs ys) (bytes_eq-Decides xs ys)

below_by : (a b : ℤ) (t : Bool) → lt_z a b ≡ t → Dec (a <ℤ b)
below_by a b true e = yes (record { lt = subst T (sym e) tt })
below_by a b false e = no (λ below. subst T e below.lt)

-- a signed number is below another, or it isn't
pub dec_below : (a b : ℤ) → Dec (a <ℤ b)
dec_below a b = below_by a b (lt_z a b) refl
