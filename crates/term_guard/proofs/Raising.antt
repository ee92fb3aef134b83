-- Kept terms behind a raise and behind a new row.
use Rattle.std.proofs.Common.{◌≡◌, inl, inr, ℕ, ◌≤◌, Option, None, Some, true, cond, refl, ap, sym, ◌∙◌, arith}
use Rattle.std.specs.Prelude.{nat_lt, is_some}
use Rattle.std.specs.Option.{unwrap_or, option_map}
use Rattle.std.specs.FinMap.{get, insert}
use Rattle.std.proofs.lemmas.Bool.{cases_Bool, cond-true, cond-false, lt-ltb, ltb-true, ltb-false}
use Rattle.maps.specs.Maps.{altered}
use Rattle.maps.proofs.Keys.{nat_keys, same_or_apart, apart_of_ne}
use Rattle.maps.proofs.Updates.{insert_here, insert_apart, altered_here, altered_apart}
use Rattle.term_guard.specs.Terms.{Terms, kept_term, verdict_by, greater, with_row, IsRaised, IsRowed}

-- the greater term isn't below the term
greater_above : (term kept : ℕ) → term ≤ greater term kept
greater_above term kept = elim (cases_Bool (nat_lt kept term)) as (λ _. term ≤ greater term kept) [
  | inl below ↦ (let e : greater term kept ≡ term = cond-true _ _ _ below in omega arith)
  | inr above ↦ (let e : greater term kept ≡ kept = cond-false _ _ _ above in let le = ltb-false kept term above in omega arith)
]

-- nor below the kept one
greater_keeps : (term kept : ℕ) → kept ≤ greater term kept
greater_keeps term kept = elim (cases_Bool (nat_lt kept term)) as (λ _. kept ≤ greater term kept) [
  | inl below ↦ (let e : greater term kept ≡ term = cond-true _ _ _ below in let lt = ltb-true kept term below in omega arith)
  | inr above ↦ (let e : greater term kept ≡ kept = cond-false _ _ _ above in omega arith)
]

-- what is kept of a row that stands
kept_here : (term : ℕ) (o : Option ℕ) → is_some o ≡ true → unwrap_or (option_map (greater term) o) 0 ≡ greater term (unwrap_or o 0)
kept_here term None h = absurd (cc)
kept_here term (Some kept) h = refl

pub raised : (g : Terms) (part term : ℕ) → is_some (get g part) ≡ true → IsRaised g part term (altered g part (greater term))
raised g part term stands =
    let here : kept_term (altered g part (greater term)) part ≡ greater term (kept_term g part) = ap (λ o. unwrap_or o 0) (altered_here nat_keys g part (greater term)) ∙ kept_here term (get g part) stands in
    let above : term ≤ greater term (kept_term g part) = greater_above term (kept_term g part) in
    let keeps : kept_term g part ≤ greater term (kept_term g part) = greater_keeps term (kept_term g part) in
    record {
      here = here;
      kept = omega (arith, here, keeps);
      stale = λ lower below. (greater term (kept_term g part), ap (λ k. verdict_by k lower) here ∙ cond-true _ _ _ (lt-ltb lower (greater term (kept_term g part)) (omega arith)), above);
      others = λ q other. ap (λ o. unwrap_or o 0) (altered_apart nat_keys g part (greater term) q (apart_of_ne nat_keys q part other));
    }

-- a new row, where there was none
new_row : (g : Terms) (part : ℕ) → get g part ≡ None → IsRowed g part (insert g part 0)
new_row g part none = record {
  there = ap is_some (insert_here nat_keys g part 0);
  same = λ q. elim (same_or_apart nat_keys q part) as (λ _. kept_term (insert g part 0) q ≡ kept_term g q) [
    | inl same ↦ ap (λ r. kept_term (insert g part 0) r) same ∙ ap (λ o. unwrap_or o 0) (insert_here nat_keys g part 0 ∙ refl) ∙ sym (ap (λ o. unwrap_or o 0) none) ∙ ap (kept_term g) (sym same)
    | inr apart ↦ ap (λ o. unwrap_or o 0) (insert_apart nat_keys g part 0 q apart)
  ];
}

pub rowed : (g : Terms) (part : ℕ) → IsRowed g part (with_row g part)
rowed g part = by_row (get g part) refl
  where
    by_row : (o : Option ℕ) → get g part ≡ o → IsRowed g part (cond (is_some o) g (insert g part 0))
    by_row None e = new_row g part e
    by_row (Some kept) e = record { there = ap is_some e; same = λ q. refl }
