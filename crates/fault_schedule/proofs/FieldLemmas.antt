-- What the fields of a line spell.
use Rattle.std.proofs.Common.{◌≡◌, ℕ, ◌<◌, ◌≤◌, ◌^◌, length, arith, List, [], ◌∷◌, Option, Some, None, Result, Ok, Err, cond, Bool, true, false, refl, ap, sym, ◌∙◌, subst}
use Rattle.std.specs.Prelude.{◌&&◌, IsUtf8, decimal, nat_le, bytes_eq, zero, suc, ◌+◌, ◌-◌, get_or, position, option_map, option_and_then}
use Rattle.std.specs.Option.{SomeIff}
use Rattle.std.specs.Result.{result_ok}
use Rattle.std.specs.Char.{is_ascii_digit}
use Rattle.std.specs.List.{list_all}
use Rattle.std.specs.Str.{all_ascii_digits}
use Rattle.std.specs.Str.Parse.{digits_value, ParsesUnsigned}
use Rattle.std.proofs.lemmas.Bool.{leb-true, le-leb, ne_eqb, cond-false, false≢true}
use Rattle.std.proofs.lemmas.Fmt.{IsAscii-from_digits, digits_value-decimal, digits_decimal, decimal_nonempty}
use Rattle.std.proofs.lemmas.Slice.Eq.{bytes_eq-Decides}
use Rattle.std.proofs.lemmas.Str.{IsUtf8-from_ascii}
use Rattle.std.proofs.lemmas.Str.Parse.{IsNumeralModel, numerals_by_value, tells_all_ascii_digits, parse_digits}
use Rattle.fault_schedule.specs.Fields.{number, small, counted, kind, positive, HasValue}
use Rattle.fault_schedule.specs.Spelling.{kind_words, kind_word}
use Rattle.std.proofs.lemmas.List.Quantifiers.{position-Some}

own : IsNumeralModel (λ ds. all_ascii_digits ds ≡ true) (digits_value 10)
own = numerals_by_value _ tells_all_ascii_digits

pub all_digits : (ds : List ℕ) → list_all is_ascii_digit ds ≡ all_ascii_digits ds
all_digits [] = refl
all_digits (d ∷ ds) = ap (λ t. is_ascii_digit d && t) (all_digits ds)

-- digits are a text
pub digits_are_text : (ds : List ℕ) → all_ascii_digits ds ≡ true → IsUtf8 ds
digits_are_text ds h = IsUtf8-from_ascii ds (IsAscii-from_digits ds (own.to ds h))

-- digits that are parsed
pub parsed : {E : Type 0} (bs : List ℕ) (r : Result ℕ E) → ParsesUnsigned 64 10 bs r → all_ascii_digits bs ≡ true → SomeIff (result_ok r) ((0 < length bs) × (digits_value 10 bs < 2 ^ 64)) (digits_value 10 bs)
parsed {E = E} bs (Ok x) p h = parse_digits own {E = E} 64 bs (Ok x) p h
parsed {E = E} bs (Err e) p h = parse_digits own {E = E} 64 bs (Err e) p h

-- a word has a value exactly where it is parsed
pub valued : {E : Type 0} (word : List ℕ) (r : Result ℕ E) → ParsesUnsigned 64 10 word r → all_ascii_digits word ≡ true → SomeIff (result_ok r) (HasValue word) (digits_value 10 word)
valued {E = E} word (Ok x) p h = let q = parsed {E = E} word (Ok x) p h in ((q.0.0, h, q.0.1), q.1)
valued {E = E} word (Err e) p h = λ has. parsed {E = E} word (Err e) p h (has.0, has.2)

not_true : (b : Bool) → (b ≡ true → ⊥) → b ≡ false
not_true true h = absurd (h refl)
not_true false h = refl

pub both : (a b : Bool) → (a && b) ≡ true → (a ≡ true) × (b ≡ true)
both true true e = (refl, refl)
both true false e = (refl, e)
both false b e = absurd (false≢true e)

-- a number is told by its digits alone
has_value : (n : ℕ) → n < 2 ^ 64 → HasValue (decimal n)
has_value n h = (decimal_nonempty n h, digits_decimal own n h, omega (arith, digits_value-decimal own n h))

module _ (most : ℕ) (word : List ℕ) where
  pub number_none : most < 2 ^ 64 → (HasValue word → ⊥) → number most word ≡ None
  unfolding number
  number_none fits none =
      cond-false _ _ _ (not_true (nat_le (digits_value 10 word) most && bytes_eq (decimal (digits_value 10 word)) word) (λ yes.
      let two = both (nat_le (digits_value 10 word) most) (bytes_eq (decimal (digits_value 10 word)) word) yes in
      let small : digits_value 10 word ≤ most = leb-true (digits_value 10 word) most two.0 in
      let same : decimal (digits_value 10 word) ≡ word = (bytes_eq-Decides (decimal (digits_value 10 word)) word).0 two.1 in
      none (subst HasValue same (has_value (digits_value 10 word) (omega arith)))))

same_some : {A : Type 0} (x y : A) → Some x ≡ Some y → x ≡ y
same_some x y e = cc

told : (t : Bool) (v n : ℕ) → cond t (Some v) None ≡ Some n → (t ≡ true) × (v ≡ n)
told true v n e = (refl, same_some v n e)
told false v n e = absurd cc

-- a number that is read is what its word spells, and the spelling of a number is read
pub number_some : (most : ℕ) (word : List ℕ) (n : ℕ) → number most word ≡ Some n → (word ≡ decimal n) × (n ≤ most)
unfolding number
number_some most word n e =
    let t = told (nat_le (digits_value 10 word) most && bytes_eq (decimal (digits_value 10 word)) word) (digits_value 10 word) n e in
    let two = both (nat_le (digits_value 10 word) most) (bytes_eq (decimal (digits_value 10 word)) word) t.0 in
    (sym ((bytes_eq-Decides (decimal (digits_value 10 word)) word).0 two.1) ∙ ap decimal t.1, subst (λ v. v ≤ most) t.1 (leb-true (digits_value 10 word) most two.0))

pub number_read : (most n : ℕ) → n ≤ most → n < 2 ^ 64 → number most (decimal n) ≡ Some n
unfolding number
number_read most n within fits =
    let same : digits_value 10 (decimal n) ≡ n = digits_value-decimal own n fits in
    let small : nat_le n most ≡ true = le-leb n most within in
    let equal : bytes_eq (decimal n) (decimal n) ≡ true = (bytes_eq-Decides (decimal n) (decimal n)).1 refl in
    rw (same, small, equal) refl

pub small_some : (word : List ℕ) (n : ℕ) → small word ≡ Some n → (word ≡ decimal n) × (n < 2 ^ 32)
unfolding small
small_some word n e = let f = number_some (2 ^ 32 - 1) word n e in (f.0, omega (arith, f.1))

pub small_read : (n : ℕ) → n < 2 ^ 32 → small (decimal n) ≡ Some n
unfolding small
small_read n h = number_read (2 ^ 32 - 1) n (omega arith) (omega arith)

positive_suc : (n : ℕ) → positive (suc n) ≡ Some (suc n)
positive_suc n = cond-false _ _ _ (ne_eqb (suc n) 0 (λ e. omega (arith, e)))

positive_some : (most : ℕ) (word : List ℕ) (n : ℕ) (o : Option ℕ) → number most word ≡ o → option_and_then positive o ≡ Some n → (word ≡ decimal n) × (1 ≤ n) × (n ≤ most)
positive_some most word n None e is = absurd (let k : None ≡ Some n = is in cc)
positive_some most word n (Some zero) e is = absurd (let k : None ≡ Some n = is in cc)
positive_some most word n (Some (suc m)) e is =
    let same : suc m ≡ n = same_some (suc m) n (sym (positive_suc m) ∙ is) in
    let f = number_some most word (suc m) e in
    subst (λ n. (word ≡ decimal n) × (1 ≤ n) × (n ≤ most)) same (f.0, omega arith, f.1)

pub counted_some : (most : ℕ) (word : List ℕ) (n : ℕ) → counted most word ≡ Some n → (word ≡ decimal n) × (1 ≤ n) × (n ≤ most)
unfolding counted
counted_some most word n is = positive_some most word n (number most word) refl is

pub counted_read : (most n : ℕ) → 1 ≤ n → n ≤ most → n < 2 ^ 64 → counted most (decimal n) ≡ Some n
unfolding counted
counted_read most zero some within fits = absurd (omega arith)
counted_read most (suc n) some within fits = rw (number_read most (suc n) within fits) (positive_suc n)

-- a kind that is read is the one that its word names, and the word of a kind is read
place_some : (word : List ℕ) (k : ℕ) (o : Option ℕ) → position (λ known. bytes_eq known word) kind_words ≡ o → option_map (λ at. at + 1) o ≡ Some k → (word ≡ kind_word k) × (1 ≤ k) × (k ≤ 14)
place_some word k None e is = absurd (let h : None ≡ Some k = is in cc)
place_some word k (Some at) e is =
    let same : at + 1 ≡ k = same_some (at + 1) k is in
    let f = position-Some (λ known. bytes_eq known word) kind_words at [] e in
    let here : kind_word (at + 1) ≡ word = rw (let m : at + 1 - 1 ≡ at = omega arith in m) ((bytes_eq-Decides (get_or kind_words at []) word).0 f.1) in
    subst (λ k. (word ≡ kind_word k) × (1 ≤ k) × (k ≤ 14)) same (sym here, omega arith, omega (arith, f.0))

pub kind_some : (word : List ℕ) (k : ℕ) → kind word ≡ Some k → (word ≡ kind_word k) × (1 ≤ k) × (k ≤ 14)
unfolding kind
kind_some word k is = place_some word k (position (λ known. bytes_eq known word) kind_words) refl is

pub kind_read : (k : ℕ) → 1 ≤ k → k ≤ 14 → kind (kind_word k) ≡ Some k
unfolding kind
kind_read zero some within = absurd (omega arith)
kind_read (suc zero) some within = refl
kind_read (suc (suc zero)) some within = refl
kind_read (suc (suc (suc zero))) some within = refl
kind_read (suc (suc (suc (suc zero)))) some within = refl
kind_read (suc (suc (suc (suc (suc zero))))) some within = refl
kind_read (suc (suc (suc (suc (suc (suc zero)))))) some within = refl
kind_read (suc (suc (suc (suc (suc (suc (suc zero))))))) some within = refl
kind_read (suc (suc (suc (suc (suc (suc (suc (suc zero)))))))) some within = refl
kind_read (suc (suc (suc (suc (suc (suc (suc (suc (suc zero))))))))) some within = refl
kind_read (suc (suc (suc (suc (suc (suc (suc (suc (suc (suc zero)))))))))) some within = refl
kind_read (suc (suc (suc (suc (suc (suc (suc (suc (suc (suc (suc zero))))))))))) some within = refl
kind_read (suc (suc (suc (suc (suc (suc (suc (suc (suc (suc (suc (suc zero)))))))))))) some within = refl
kind_read (suc (suc (suc (suc (suc (suc (suc (suc (suc (suc (suc (suc (suc zero))))))))))))) some within = refl
kind_read (suc (suc (suc (suc (suc (suc (suc (suc (suc (suc (suc (suc (suc (suc zero)))))))))))))) some within = refl
kind_read (suc (suc (suc (suc (suc (suc (suc (suc (suc (suc (suc (suc (suc (suc (suc k))))))))))))))) some within = absurd (omega arith)

-- digits are no word of letters
pub no_digits : (word : List ℕ) (n : ℕ) → n < 2 ^ 64 → all_ascii_digits word ≡ false → bytes_eq (decimal n) word ≡ false
no_digits word n fits letters =
    not_true (bytes_eq (decimal n) word) (λ yes.
    let same : decimal n ≡ word = (bytes_eq-Decides (decimal n) word).0 yes in
    let digits : all_ascii_digits word ≡ true = subst (λ ds. all_ascii_digits ds ≡ true) same (digits_decimal own n fits) in
    absurd (false≢true (sym letters ∙ digits)))
