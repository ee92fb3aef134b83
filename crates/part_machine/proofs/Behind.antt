-- The chains behind a number, read from their places.
use Rattle.std.proofs.Common.{◌≡◌, inl, inr, ℕ, zero, suc, ◌+◌, ◌-◌, ◌<◌, ◌≤◌, List, [], ◌∷◌, ◌++◌, length, take, map, filter, Option, Some, None, Bool, true, false, cond, refl, ap, sym, ◌∙◌, arith}
use Rattle.std.specs.Prelude.{nat_lt, not, ◌&&◌, if◌then◌else◌}
use Rattle.std.specs.Cmp.{ranked}
use Rattle.std.specs.FinMap.{entries}
use Rattle.std.specs.List.{filter_map, cons_option}
use Rattle.std.specs.List.Sorted.{IsStrictlySortedBy}
use Rattle.std.specs.Map.{keys_of}
use Rattle.std.specs.Ordering.{nat_cmp, is_le, MatchOrdering}
use Rattle.std.specs.declared.cmp.Ordering.{Ordering}
use Rattle.std.specs.declared.cmp.Ordering.TheVariants.{Less, Equal, Greater}
use Rattle.std.proofs.lemmas.Bool.{cases_Bool, ltb-true}
use Rattle.std.proofs.lemmas.List.{take-map, take-append-le, append-nil, length-map}
use Rattle.std.proofs.Math.Seq.{take-append-add}
use Rattle.maps.specs.Places.{place_read}
use Rattle.maps.proofs.Keys.{nat_keys}
use Rattle.maps.proofs.Present.{read_placed}
use Rattle.part_keys.specs.declared.chain.PrimeRec.{PrimeRec}
use Rattle.part_machine.specs.Chains.{standing, first_behind, all_behind}

-- a chain behind the number
abbrev pub tested : ℕ → ℕ × PrimeRec → Option PrimeRec
tested after e = if nat_lt after e.0 then Some e.1 else None

-- the chain of a place behind the number
abbrev pub seen_at : ℕ → ℕ × Option PrimeRec → Option PrimeRec
seen_at after e = place_read (tested after) e.0 e.1

tested_is : (after : ℕ) (es : List (ℕ × PrimeRec)) → filter_map (tested after) es ≡ map (λ (c : ℕ × PrimeRec). c.1) (filter (λ (c : ℕ × PrimeRec). nat_lt after c.0) es)
tested_is after [] = refl
tested_is after (e ∷ es) =
    elim (nat_lt after e.0) as (λ b. cons_option (if b then Some e.1 else None) (filter_map (tested after) es) ≡ map (λ (c : ℕ × PrimeRec). c.1) (cond b (e ∷ filter (λ (c : ℕ × PrimeRec). nat_lt after c.0) es) (filter (λ (c : ℕ × PrimeRec). nat_lt after c.0) es))) [
      | true ↦ ap (λ l. e.1 ∷ l) (tested_is after es)
      | false ↦ tested_is after es
    ]

-- a place below the number has none behind it
below_by : (after k : ℕ) (r : Ordering) → MatchOrdering r (after < k) (after ≡ k) (k < after) → (is_le r && not false) ≡ false → nat_lt after k ≡ false
below_by after k Less is off = absurd cc
below_by after k Equal is off = absurd cc
below_by after k Greater is off = elim (cases_Bool (nat_lt after k)) [
  | inl t ↦ (let l = ltb-true after k t in absurd (omega arith))
  | inr f ↦ f
]

none_seen : (after : ℕ) (e : ℕ × Option PrimeRec) → nat_lt after e.0 ≡ false → seen_at after e ≡ None
none_seen after e off = none_of e.1
  where
    none_of : (w : Option PrimeRec) → place_read (tested after) e.0 w ≡ None
    none_of None = refl
    none_of (Some chain) = ap (λ b. if b then Some chain else None) off

abbrev pub is_from : ℕ → ℕ × Option PrimeRec → Bool
is_from after e = is_le (nat_cmp after e.0) && not false

pub from_after : (after : ℕ) (es : List (ℕ × Option PrimeRec)) → filter_map (seen_at after) (filter (is_from after) es) ≡ filter_map (seen_at after) es
from_after after [] = refl
from_after after (e ∷ es) =
    elim (is_from after e) as (λ b. is_from after e ≡ b → filter_map (seen_at after) (cond b (e ∷ filter (is_from after) es) (filter (is_from after) es)) ≡ cons_option (seen_at after e) (filter_map (seen_at after) es)) [
      | true ↦ λ on. ap (cons_option (seen_at after e)) (from_after after es)
      | false ↦ λ off. from_after after es ∙ sym (ap (λ w. cons_option w (filter_map (seen_at after) es)) (none_seen after e (below_by after e.0 (nat_cmp after e.0) (ranked after e.0 (nat_cmp after e.0) refl) off)))
    ] refl

-- the first of those that are seen are the first behind the number
pub first_is : (after : ℕ) (es : List (ℕ × Option PrimeRec)) → IsStrictlySortedBy nat_cmp (keys_of es) → take 64 (filter_map (seen_at after) es) ≡ first_behind after (standing es)
first_is after es sorted =
    ap (take 64) (read_placed nat_keys nat_cmp refl (tested after) es sorted ∙ tested_is after (entries (standing es)))
    ∙ take-map (λ (c : ℕ × PrimeRec). c.1) 64 (filter (λ (c : ℕ × PrimeRec). nat_lt after c.0) (entries (standing es)))

-- there are as many of them as stand behind the number
pub all_are : (after : ℕ) (es : List (ℕ × Option PrimeRec)) → IsStrictlySortedBy nat_cmp (keys_of es) → length (filter_map (seen_at after) es) ≡ length (all_behind after (standing es))
all_are after es sorted =
    ap length (read_placed nat_keys nat_cmp refl (tested after) es sorted ∙ tested_is after (entries (standing es)))
    ∙ length-map (all_behind after (standing es)) (λ (c : ℕ × PrimeRec). c.1)

nil_taken : (k : ℕ) → ◌≡◌ {A = List PrimeRec} (take k []) []
nil_taken zero = refl
nil_taken (suc k) = refl

-- a list that isn't longer is taken whole
short : (xs : List PrimeRec) (n : ℕ) → length xs ≤ n → take n xs ≡ xs
short xs n few =
    let sum : n ≡ length xs + (n - length xs) = omega (arith, few) in
    ap (λ k. take k xs) sum ∙ ap (take (length xs + (n - length xs))) (sym (append-nil xs)) ∙ take-append-add xs [] (n - length xs) ∙ ap (λ l. xs ++ l) (nil_taken (n - length xs)) ∙ append-nil xs

-- where so many were seen, the others don't matter
pub full : (made rest all : List PrimeRec) → made ++ rest ≡ all → length made ≡ 64 → made ≡ take 64 all
full made rest all is size = sym (ap (take 64) (sym is) ∙ take-append-le 64 made rest (omega (arith, size)) ∙ short made 64 (omega (arith, size)))

-- where no more are left
pub ended : (made all : List PrimeRec) → made ++ [] ≡ all → length made ≤ 64 → made ≡ take 64 all
ended made all is few = sym (ap (take 64) (sym is ∙ append-nil made) ∙ short made 64 few)
