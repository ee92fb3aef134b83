-- Rising lists of ids, with one more or one less.
use Rattle.std.proofs.Common.{◌≡◌, inl, inr, ℕ, ◌+◌, ◌<◌, ◌≤◌, ◌^◌, List, [], ◌∷◌, ◌++◌, length, Bool, true, false, not, refl, ap, sym, ◌∙◌, subst, drop, get_or, length-append, add-one, arith}
use Rattle.std.specs.Prelude.{nat_lt, ◌==◌, ◌&&◌}
use Rattle.std.specs.List.{list_any}
use Rattle.std.proofs.lemmas.List.{drop_all}
use Rattle.std.proofs.Math.Seq.{append_snoc}
use Rattle.std.proofs.lemmas.Bool.{cases_Bool, or_parts, ltb-true, ltb-false, eqb-false}
use Rattle.std.proofs.Math.Seq.{drop-cons}
use Rattle.raft_log.specs.Peers.{IsRisingAbove, IsPeers, put_among, but}

-- what is left of the ids, with the new one where it isn't put yet
abbrev pub still_to_put : Bool → ℕ → List ℕ → List ℕ
still_to_put true id ids = ids
still_to_put false id ids = put_among id ids

rising_front : (low : ℕ) (xs ys : List ℕ) → IsRisingAbove low (xs ++ ys) → IsRisingAbove low xs
rising_front low [] ys h = tt
rising_front low (x ∷ xs) ys h = (h.0, h.1, rising_front x xs ys h.2)

-- an id that comes next among peers may be put behind those before it
pub peers_next : (all xs ys : List ℕ) (x : ℕ) → IsPeers all → xs ++ x ∷ ys ≡ all → IsPeers (xs ++ x ∷ [])
peers_next all xs ys x h e =
    let front : IsPeers ((xs ++ x ∷ []) ++ ys) = subst IsPeers (sym (append_snoc xs x ys ∙ e)) h in
    (rising_front 0 (xs ++ x ∷ []) ys front.0, let long = length-append (xs ++ x ∷ []) ys in omega (arith, front.1, long))

rising_lower : (low high : ℕ) (xs : List ℕ) → low ≤ high → IsRisingAbove high xs → IsRisingAbove low xs
rising_lower low high [] le h = tt
rising_lower low high (x ∷ xs) le h = (omega (arith, h.0), h.1, h.2)

rising_but : (low id : ℕ) (xs : List ℕ) → IsRisingAbove low xs → IsRisingAbove low (but id xs)
rising_but low id [] h = tt
rising_but low id (x ∷ xs) h = elim (cases_Bool (x == id)) [
  | inl same ↦ rw same (rising_lower low x (but id xs) (omega (arith, h.0)) (rising_but x id xs h.2))
  | inr apart ↦ rw apart (h.0, h.1, rising_but x id xs h.2)
]

pub fewer : (id : ℕ) (xs : List ℕ) → length (but id xs) ≤ length xs
fewer id [] = omega arith
fewer id (x ∷ xs) = let h = fewer id xs in elim (cases_Bool (x == id)) [
  | inl same ↦ rw same (omega (arith, h))
  | inr apart ↦ rw apart (omega (arith, h))
]

pub peers_but : (id : ℕ) (xs : List ℕ) → IsPeers xs → IsPeers (but id xs)
peers_but id xs h = (rising_but 0 id xs h.0, let e = fewer id xs in omega (arith, e, h.1))

pub length_put : (id : ℕ) (xs : List ℕ) → length (put_among id xs) ≡ length xs + 1
length_put id [] = refl
length_put id (x ∷ xs) = let h = length_put id xs in elim (cases_Bool (nat_lt id x)) [
  | inl below ↦ rw below (omega arith)
  | inr not_below ↦ rw not_below (omega (arith, h))
]

rising_put : (low id : ℕ) (xs : List ℕ) → low < id → id < 2 ^ 32 → list_any (λ other. other == id) xs ≡ false → IsRisingAbove low xs → IsRisingAbove low (put_among id xs)
rising_put low id [] above fits apart h = (above, fits, tt)
rising_put low id (x ∷ xs) above fits apart h = let p = or_parts (x == id) (list_any (λ other. other == id) xs) apart in elim (cases_Bool (nat_lt id x)) [
  | inl below ↦ rw below (above, fits, (ltb-true id x below, h.1, h.2))
  | inr not_below ↦ (let ne = eqb-false x id p.0 in rw not_below (h.0, h.1, rising_put x id xs (omega (arith, ne, ltb-false id x not_below)) fits p.1 h.2))
]

pub peers_put : (id : ℕ) (xs : List ℕ) → 0 < id → id < 2 ^ 32 → length xs < 8 → list_any (λ other. other == id) xs ≡ false → IsPeers xs → IsPeers (put_among id xs)
peers_put id xs above fits few apart h = (rising_put 0 id xs above fits apart h.0, let e = length_put id xs in omega (arith, e, few))

-- ---- a step of putting an id among others

module _ (all ids : List ℕ) (put : Bool) (id i : ℕ) (within : i < length ids) (so_far : all ++ still_to_put put id (drop i ids) ≡ put_among id ids) where
  split : drop i ids ≡ get_or ids i 0 ∷ drop (i + 1) ids
  split = rw add-one (drop-cons ids i 0 within)

  put_here : (b : Bool) (x : ℕ) (rest : List ℕ) → not b && nat_lt id x ≡ true → still_to_put b id (x ∷ rest) ≡ id ∷ x ∷ rest
  put_here true x rest e = absurd cc
  put_here false x rest e = rw e refl

  put_later : (b : Bool) (x : ℕ) (rest : List ℕ) → not b && nat_lt id x ≡ false → still_to_put b id (x ∷ rest) ≡ x ∷ still_to_put b id rest
  put_later true x rest e = refl
  put_later false x rest e = rw e refl

  pub comes_next : not put && nat_lt id (get_or ids i 0) ≡ true → all ++ id ∷ get_or ids i 0 ∷ drop (i + 1) ids ≡ put_among id ids
  comes_next e = ap (λ xs. all ++ xs) (sym (ap (still_to_put put id) split ∙ put_here put (get_or ids i 0) (drop (i + 1) ids) e)) ∙ so_far

  pub comes_later : not put && nat_lt id (get_or ids i 0) ≡ false → all ++ get_or ids i 0 ∷ still_to_put put id (drop (i + 1) ids) ≡ put_among id ids
  comes_later e = ap (λ xs. all ++ xs) (sym (ap (still_to_put put id) split ∙ put_later put (get_or ids i 0) (drop (i + 1) ids) e)) ∙ so_far

-- ---- a step of leaving an id out

pub stays_in : (others ids : List ℕ) (id i : ℕ) → i < length ids → get_or ids i 0 == id ≡ false → others ++ but id (drop i ids) ≡ but id ids
    → others ++ get_or ids i 0 ∷ but id (drop (i + 1) ids) ≡ but id ids
stays_in others ids id i within apart so_far =
    let split : drop i ids ≡ get_or ids i 0 ∷ drop (i + 1) ids = rw add-one (drop-cons ids i 0 within) in
    let here : but id (get_or ids i 0 ∷ drop (i + 1) ids) ≡ get_or ids i 0 ∷ but id (drop (i + 1) ids) = rw apart refl in
    ap (λ xs. others ++ xs) (sym (ap (but id) split ∙ here)) ∙ so_far

pub put_last : (all ids : List ℕ) (put : Bool) (id i : ℕ) → put ≡ false → length ids ≤ i → all ++ still_to_put put id (drop i ids) ≡ put_among id ids → all ++ id ∷ [] ≡ put_among id ids
put_last all ids put id i not_yet ended so_far =
    let none : drop i ids ≡ [] = drop_all i ids ended in
    let e : still_to_put put id (drop i ids) ≡ id ∷ [] = rw (not_yet, none) refl in
    ap (λ xs. all ++ xs) (sym e) ∙ so_far
