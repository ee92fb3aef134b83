-- What digits spell.
use Rattle.std.proofs.Common.{◌≡◌, ℕ, ◌<◌, ◌≤◌, ◌^◌, length, arith, List, [], ◌∷◌, Some, None, Result, Ok, Err, cond, Bool, true, false, refl, ap}
use Rattle.std.specs.Prelude.{nat_lt, nat_le, IsUtf8, pos, neg_ℤ}
use Rattle.std.specs.Option.{SomeIff}
use Rattle.std.specs.Result.{result_ok}
use Rattle.std.specs.Str.{all_ascii_digits}
use Rattle.std.specs.Str.Parse.{digits_value, ParsesUnsigned}
use Rattle.std.specs.Char.{is_ascii_digit}
use Rattle.std.proofs.lemmas.Str.{IsUtf8-from_ascii}
use Rattle.std.proofs.lemmas.Fmt.{IsAscii-from_digits}
use Rattle.std.proofs.lemmas.Bool.{ltb-true, leb-true, lt-ltb, le-leb}
use Rattle.std.proofs.lemmas.Str.Parse.{IsNumeralModel, numerals_by_value, tells_all_ascii_digits, parse_digits}
use Rattle.std.proofs.lemmas.List.Sums.{take_while-cons}
use Rattle.first_script.specs.Statements.{negative_of, natural_of, digits_at}

own : IsNumeralModel (λ ds. all_ascii_digits ds ≡ true) (digits_value 10)
own = numerals_by_value _ tells_all_ascii_digits

-- digits are a text
pub digits_are_text : (ds : List ℕ) → all_ascii_digits ds ≡ true → IsUtf8 ds
digits_are_text ds h = IsUtf8-from_ascii ds (IsAscii-from_digits ds (own.to ds h))

-- the longest run of digits has digits alone
all_digits_at_first : (b : ℕ) (bs : List ℕ) (t : Bool) → is_ascii_digit b ≡ t → all_ascii_digits (digits_at bs) ≡ true → all_ascii_digits (cond t (b ∷ digits_at bs) []) ≡ true
all_digits_at_first b bs true e h = cc
all_digits_at_first b bs false e h = refl

pub all_digits_at : (bs : List ℕ) → all_ascii_digits (digits_at bs) ≡ true
all_digits_at [] = refl
all_digits_at (b ∷ bs) = rw (take_while-cons is_ascii_digit b bs) (all_digits_at_first b bs (is_ascii_digit b) refl (all_digits_at bs))

-- digits that are parsed
pub parsed : {E : Type 0} (bs : List ℕ) (r : Result ℕ E) → ParsesUnsigned 64 10 bs r → all_ascii_digits bs ≡ true → SomeIff (result_ok r) ((0 < length bs) × (digits_value 10 bs < 2 ^ 64)) (digits_value 10 bs)
parsed {E = E} bs (Ok x) p h = parse_digits own {E = E} 64 bs (Ok x) p h
parsed {E = E} bs (Err e) p h = parse_digits own {E = E} 64 bs (Err e) p h

pub not_true : (b : Bool) → (b ≡ true → ⊥) → b ≡ false
not_true true h = absurd (h refl)
not_true false h = refl

-- digits that are no number below 2 ^ 64
pub natural_none : (ds : List ℕ) → ((0 < length ds) × (digits_value 10 ds < 2 ^ 64) → ⊥) → natural_of ds ≡ None
natural_none [] h = refl
natural_none (d ∷ ds) h =
    ap (λ t. cond t (Some (pos (digits_value 10 (d ∷ ds)))) None) (not_true (nat_lt (digits_value 10 (d ∷ ds)) (2 ^ 63)) (λ p. h (omega arith, omega (arith, ltb-true (digits_value 10 (d ∷ ds)) (2 ^ 63) p))))

pub negative_none : (ds : List ℕ) → ((0 < length ds) × (digits_value 10 ds < 2 ^ 64) → ⊥) → negative_of ds ≡ None
negative_none [] h = refl
negative_none (d ∷ ds) h =
    ap (λ t. cond t (Some (neg_ℤ (pos (digits_value 10 (d ∷ ds))))) None) (not_true (nat_le (digits_value 10 (d ∷ ds)) (2 ^ 63)) (λ p. h (omega arith, omega (arith, leb-true (digits_value 10 (d ∷ ds)) (2 ^ 63) p))))

-- digits that are a number
pub natural_some : (ds : List ℕ) → 0 < length ds → digits_value 10 ds < 2 ^ 63 → natural_of ds ≡ Some (pos (digits_value 10 ds))
natural_some [] some h = absurd (omega arith)
natural_some (d ∷ ds) some h = ap (λ t. cond t (Some (pos (digits_value 10 (d ∷ ds)))) None) (lt-ltb (digits_value 10 (d ∷ ds)) (2 ^ 63) h)

pub natural_large : (ds : List ℕ) → 2 ^ 63 ≤ digits_value 10 ds → natural_of ds ≡ None
natural_large [] h = refl
natural_large (d ∷ ds) h =
    ap (λ t. cond t (Some (pos (digits_value 10 (d ∷ ds)))) None) (not_true (nat_lt (digits_value 10 (d ∷ ds)) (2 ^ 63)) (λ p. omega (arith, ltb-true (digits_value 10 (d ∷ ds)) (2 ^ 63) p)))

pub negative_some : (ds : List ℕ) → 0 < length ds → digits_value 10 ds ≤ 2 ^ 63 → negative_of ds ≡ Some (neg_ℤ (pos (digits_value 10 ds)))
negative_some [] some h = absurd (omega arith)
negative_some (d ∷ ds) some h = ap (λ t. cond t (Some (neg_ℤ (pos (digits_value 10 (d ∷ ds))))) None) (le-leb (digits_value 10 (d ∷ ds)) (2 ^ 63) h)

pub negative_large : (ds : List ℕ) → 2 ^ 63 < digits_value 10 ds → negative_of ds ≡ None
negative_large [] h = refl
negative_large (d ∷ ds) h =
    ap (λ t. cond t (Some (neg_ℤ (pos (digits_value 10 (d ∷ ds))))) None) (not_true (nat_le (digits_value 10 (d ∷ ds)) (2 ^ 63)) (λ p. omega (arith, leb-true (digits_value 10 (d ∷ ds)) (2 ^ 63) p)))
