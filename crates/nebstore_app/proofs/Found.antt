-- Two maps in which the same is found at each key show the same list.
use Rattle.std.proofs.Common.{◌≡◌, List, [], ◌∷◌, Option, Some, None, cond, Bool, true, false, T, map, refl, ap, sym, subst, ◌∙◌}
use Rattle.std.specs.Prelude.{◌&&◌}
use Rattle.std.specs.List.{filter_map, cons_option}
use Rattle.std.specs.Option.{option_map, option_and_then}
use Rattle.std.specs.FinMap.{FinMap, get, entries, find, is_sorted, entries_sorted, get-entries}
use Rattle.std.specs.FinMap.Entries.{below_all, same_entries}
use Rattle.std.specs.Cmp.{IsTotalOrder}
use Rattle.std.specs.Ordering.{eq_by_cmp, is_eq, is_lt}
use Rattle.std.specs.declared.cmp.Ordering.{Ordering}
use Rattle.std.specs.declared.cmp.Ordering.TheVariants.{Less, Equal, Greater}
use Rattle.std.proofs.lemmas.Map.Lookups.{CmpEqualImpliesEq}

both : (a b : Bool) → T a → T b → T (a && b)
both true b p q = q
both false b p q = p

first : (a b : Bool) → T (a && b) → T a
first true b p = tt
first false b p = p

second : (a b : Bool) → T (a && b) → T b
second true b p = p
second false b p = absurd p

not_equal : (r : Ordering) → T (is_lt r) → is_eq r ≡ false
not_equal Less p = refl
not_equal Equal p = absurd p
not_equal Greater p = absurd p

is_equal : (r : Ordering) → is_eq r ≡ true → r ≡ Equal
is_equal Less e = cc
is_equal Equal e = refl
is_equal Greater e = cc

-- what is found at an entry, with its key
abbrev hit : {K X F : Type 0} → (K × X → Option F) → K × X → Option (K × F)
hit f e = option_map (λ y. (e.0, y)) (f e)

abbrev hits : {K X F : Type 0} → (K × X → Option F) → List (K × X) → List (K × F)
hits f es = filter_map (hit f) es

values-hits : {K X F : Type 0} (f : K × X → Option F) (es : List (K × X)) → map (λ e. e.1) (hits f es) ≡ filter_map f es
values-hits f [] = refl
values-hits f (e ∷ es) =
    elim (f e) as (λ o. map (λ x. x.1) (cons_option (option_map (λ y. (e.0, y)) o) (hits f es)) ≡ cons_option o (filter_map f es)) [
      | None ↦ values-hits f es
      | Some y ↦ ap (λ ys. y ∷ ys) (values-hits f es)
    ]

module _ {K : Type 0} (R : K → K → Ordering) where
  below-hits : {X F : Type 0} (f : K × X → Option F) (k : K) (es : List (K × X)) → T (below_all R k es) → T (below_all R k (hits f es))
  below-hits f k [] h = tt
  below-hits f k (e ∷ es) h =
      let rest = below-hits f k es (second _ _ h) in
      elim (f e) as (λ o. T (below_all R k (cons_option (option_map (λ y. (e.0, y)) o) (hits f es)))) [
        | None ↦ rest
        | Some y ↦ both _ _ (first _ _ h) rest
      ]

  sorted-hits : {X F : Type 0} (f : K × X → Option F) (es : List (K × X)) → T (is_sorted R es) → T (is_sorted R (hits f es))
  sorted-hits f [] h = tt
  sorted-hits f (e ∷ es) h =
      let rest = sorted-hits f es (second _ _ h) in
      elim (f e) as (λ o. T (is_sorted R (cons_option (option_map (λ y. (e.0, y)) o) (hits f es)))) [
        | None ↦ rest
        | Some y ↦ both _ _ (below-hits f e.0 es (first _ _ h)) rest
      ]

  -- a key below all others isn't found among them
  find_below : {X : Type 0} (k : K) (es : List (K × X)) → T (below_all R k es) → find R k es ≡ None
  find_below k [] h = refl
  find_below k (e ∷ es) h = ap (λ b. cond b (Some e.1) (find R k es)) (not_equal (R k e.0) (first _ _ h)) ∙ find_below k es (second _ _ h)

  find-hits : {X F : Type 0} → CmpEqualImpliesEq R → (f : K × X → Option F) (q : K) (es : List (K × X)) → T (is_sorted R es) → find R q (hits f es) ≡ option_and_then (λ x. f (q, x)) (find R q es)
  find-hits exact f q [] h = refl
  find-hits exact f q (e ∷ es) h =
      let rest = find-hits exact f q es (second _ _ h) in
      elim (eq_by_cmp R q e.0) as (λ b. eq_by_cmp R q e.0 ≡ b → find R q (cons_option (hit f e) (hits f es)) ≡ option_and_then (λ x. f (q, x)) (cond b (Some e.1) (find R q es))) [
        | true ↦ λ t.
            let same = exact q e.0 (is_equal (R q e.0) t) in
            let none : find R q (hits f es) ≡ None = subst (λ k. find R k (hits f es) ≡ None) (sym same) (find_below e.0 (hits f es) (below-hits f e.0 es (first _ _ h))) in
            (elim (f e) as (λ o. find R q (cons_option (option_map (λ y. (e.0, y)) o) (hits f es)) ≡ o) [
              | None ↦ none
              | Some y ↦ ap (λ b. cond b (Some y) (find R q (hits f es))) t
            ]) ∙ ap (λ k. f (k, e.1)) (sym same)
        | false ↦ λ t.
            (elim (f e) as (λ o. find R q (cons_option (option_map (λ y. (e.0, y)) o) (hits f es)) ≡ find R q (hits f es)) [
              | None ↦ refl
              | Some y ↦ ap (λ b. cond b (Some y) (find R q (hits f es))) t
            ]) ∙ rest
      ] refl

-- what is found at each key is found in the whole
pub same_found : {K X Y F : Type 0} {R : K → K → Ordering} → IsTotalOrder R → CmpEqualImpliesEq R → (f : K × X → Option F) (g : K × Y → Option F) (m : FinMap R X) (n : FinMap R Y)
    → ((q : K) → option_and_then (λ x. f (q, x)) (get m q) ≡ option_and_then (λ y. g (q, y)) (get n q))
    → filter_map f (entries m) ≡ filter_map g (entries n)
same_found {K = K} {R = R} o exact f g m n alike =
    let at_m = λ (q : K). find-hits R exact f q (entries m) (entries_sorted m) ∙ ap (option_and_then (λ x. f (q, x))) (sym (get-entries m q)) in
    let at_n = λ (q : K). find-hits R exact g q (entries n) (entries_sorted n) ∙ ap (option_and_then (λ y. g (q, y))) (sym (get-entries n q)) in
    let same = same_entries R o exact (hits f (entries m)) (hits g (entries n)) (sorted-hits R f (entries m) (entries_sorted m)) (sorted-hits R g (entries n) (entries_sorted n)) (λ q. at_m q ∙ alike q ∙ sym (at_n q)) in
    sym (values-hits f (entries m)) ∙ ap (map (λ e. e.1)) same ∙ values-hits g (entries n)
