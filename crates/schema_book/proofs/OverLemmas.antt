-- The places of types that are walked rise, and their numbers are types.
use Rattle.std.proofs.Common.{◌≡◌, ℕ, ℤ, suc, zero, pos, ◌+◌, ◌≤◌, Bool, true, false, cond, List, [], ◌∷◌, ◌++◌, length, map, filter, refl, sym, ap, ◌∙◌, arith}
use Rattle.std.proofs.lemmas.Int.{ints}
use Rattle.std.proofs.lemmas.List.{map-append}
use Rattle.std.proofs.lemmas.List.Elements.{filter-append}
use Rattle.std.specs.List.{range_with_len}
use Rattle.graph_model.specs.Types.{AreTypes, IsRisingFrom}

range_from : (a n m : ℕ) → m ≡ a + n → range_with_len a (suc n) ≡ range_with_len a n ++ m ∷ []
range_from a zero m is = let e : a ≡ m = omega arith in ap (λ x. x ∷ []) e
range_from a (suc n) m is = let e : m ≡ (a + 1) + n = omega arith in ap (λ xs. a ∷ xs) (range_from (a + 1) n m e)

pub range_push : (n : ℕ) → range_with_len 0 (n + 1) ≡ range_with_len 0 n ++ n ∷ []
range_push n = let e : n + 1 ≡ suc n = omega arith in ap (range_with_len 0) e ∙ range_from 0 n n (omega arith)

-- numbers of places, one above each
abbrev pub numbers : List ℕ → List ℤ
numbers places = map (λ i. pos (i + 1)) places

-- places that rise from a least one on
abbrev pub RiseFrom : ℕ → List ℕ → Type 0
RiseFrom least [] = Unit {0}
RiseFrom least (i ∷ places) = (least ≤ i) × RiseFrom (i + 1) places

rise_less : (a b : ℕ) (places : List ℕ) → a ≤ b → RiseFrom b places → RiseFrom a places
rise_less a b [] h r = tt
rise_less a b (i ∷ places) h r = (let q = r.0 in omega arith, r.1)

rise_by : (b : Bool) (a : ℕ) (rest : List ℕ) → RiseFrom (a + 1) rest → RiseFrom a (cond b (a ∷ rest) rest)
rise_by true a rest r = (omega arith, r)
rise_by false a rest r = rise_less a (a + 1) rest (omega arith) r

pub rising : (p : ℕ → Bool) (a n : ℕ) → RiseFrom a (filter p (range_with_len a n))
rising p a zero = tt
rising p a (suc n) = rise_by (p a) a (filter p (range_with_len (a + 1) n)) (rising p (a + 1) n)

pub rising_numbers : (places : List ℕ) (least : ℕ) → RiseFrom least places → IsRisingFrom (pos least) (numbers places)
rising_numbers [] least r = tt
rising_numbers (i ∷ places) least r = (let q = r.0 in grind (arith, ints), rising_numbers places (i + 1) r.1)

few_by : (b : Bool) (a m : ℕ) (rest : List ℕ) → length rest ≤ m → length (cond b (a ∷ rest) rest) ≤ m + 1
few_by true a m rest h = omega arith
few_by false a m rest h = omega arith

few : (p : ℕ → Bool) (a n : ℕ) → length (filter p (range_with_len a n)) ≤ n
few p a zero = omega arith
few p a (suc n) = let h = few_by (p a) a n (filter p (range_with_len (a + 1) n)) (few p (a + 1) n) in omega arith

numbers_long : (places : List ℕ) → length (numbers places) ≡ length places
numbers_long [] = refl
numbers_long (i ∷ places) = ap suc (numbers_long places)

-- the numbers of places among so few
pub are_types : (p : ℕ → Bool) (n : ℕ) → n ≤ 64 → AreTypes (numbers (filter p (range_with_len 0 n)))
are_types p n h =
    let short = few p 0 n in
    (omega (arith, numbers_long (filter p (range_with_len 0 n))), rising_numbers _ 0 (rising p 0 n))

-- one more place
pub one_more_place : (p : ℕ → Bool) (n : ℕ) → filter p (range_with_len 0 n) ++ filter p (n ∷ []) ≡ filter p (range_with_len 0 (n + 1))
one_more_place p n = sym (filter-append p (range_with_len 0 n) (n ∷ [])) ∙ ap (filter p) (sym (range_push n))

pub one_more_number : (p : ℕ → Bool) (n : ℕ) → numbers (filter p (range_with_len 0 n)) ++ numbers (filter p (n ∷ [])) ≡ numbers (filter p (range_with_len 0 (n + 1)))
one_more_number p n = sym (map-append (λ (i : ℕ). pos (i + 1)) (filter p (range_with_len 0 n)) (filter p (n ∷ []))) ∙ ap numbers (one_more_place p n)
