-- A walk, a read at a time, is the walk over sets.
use Rattle.std.proofs.Common.{◌≡◌, ℕ, zero, suc, ◌-◌, ◌≤◌, ℤ, Bool, true, false, List, [], ◌∷◌, ◌++◌, length, map, nat_lt, nat_eq, Option, None, Some, if◌then◌else◌, refl, sym, ap, subst, ◌∙◌, append_assoc, append-nil, arith}
use Rattle.std.specs.declared.cmp.Ordering.{Ordering}
use Rattle.std.specs.declared.cmp.Ordering.TheVariants.{Less, Equal, Greater}
use Rattle.std.specs.BTreeSet.{insert_key}
use Rattle.std.specs.Ordering.{match_ordering}
use Rattle.graph_model.specs.Keys.{vid_cmp}
use Rattle.graph_model.specs.declared.found.Found.{Found}
use Rattle.graph_model.specs.declared.vid.Vid.{Vid}
use Rattle.ngql_syntax.specs.declared.go.Way.{Way}
use Rattle.traversal.specs.declared.walk.Walk.{Walk}
use Rattle.traversal.specs.OverSets.{Finds, Reads, Gives, ends_from, over_sets, unless_wide}
use Rattle.traversal.specs.Sets.{with_all, set_of, ends_in, most_ends}
use Rattle.traversal.specs.Trail.{starting, kept, passed, gone_on, next_step}

-- a set doesn't shrink where vertices are put into it
insert_by : (v x : Vid) (xs : List Vid) (o : Ordering) → length xs ≤ length (insert_key vid_cmp xs v) → length (x ∷ xs) ≤ length (match_ordering o (v ∷ x ∷ xs) (x ∷ xs) (x ∷ insert_key vid_cmp xs v))
insert_by v x xs Less h = omega (arith)
insert_by v x xs Equal h = omega (arith)
insert_by v x xs Greater h = omega (arith, h)

grows_by_one : (v : Vid) (set : List Vid) → length set ≤ length (insert_key vid_cmp set v)
grows_by_one v [] = omega (arith)
grows_by_one v (x ∷ xs) = insert_by v x xs (vid_cmp v x) (grows_by_one v xs)

grows : (set vs : List Vid) → length set ≤ length (with_all set vs)
grows set [] = omega (arith)
grows set (v ∷ vs) = let a = grows_by_one v set in let b = grows (insert_key vid_cmp set v) vs in omega (arith, a, b)

put_more : (set vs more : List Vid) → with_all (with_all set vs) more ≡ with_all set (vs ++ more)
put_more set [] more = refl
put_more set (v ∷ vs) more = put_more (insert_key vid_cmp set v) vs more

more_stays : (a b : ℕ) → a ≤ b → nat_lt most_ends a ≡ true → nat_lt most_ends b ≡ true
more_stays a b h more = grind (arith, h, more)

not_zero : (n : ℕ) → nat_eq (suc n) 0 ≡ false
not_zero n = grind (arith)

not_one : (n : ℕ) → nat_eq (suc (suc n)) 1 ≡ false
not_one n = grind (arith)

module _ (finds : Finds) (way : Way) (types : List ℤ) (end : Walk) where
  abbrev at : ℕ → List Vid → List Vid → List (List Found) → Bool → Walk
  at left rest ends found wide = record { way = way; types = types; left = left; rest = rest; ends = ends; found = found; wide = wide }

  -- what a walk gives behind this frontier, unless it is too wide
  abbrev behind : ℕ → List Vid → Option (List (List Found))
  behind left frontier = unless_wide frontier (over_sets finds left frontier)

  -- the ends that a step has found behind its reads of these vertices
  abbrev all_ends : ℕ → List Vid → List Vid → List Vid
  all_ends left rest ends = with_all ends (ends_from (finds left) rest)

  -- the last step
  last : (vs rest ends : List Vid) (found : List (List Found)) → Reads finds (at 1 rest ends found false) vs end → Gives end (Some (found ++ map (finds 1) rest))
  last [] [] ends found r = (ap (λ w. w.wide) r.1, ap (λ w. w.found) r.1 ∙ sym (append-nil found))
  last [] (x ∷ rest) ends found r = let e : Some x ≡ None = r.0 in absurd cc
  last (v ∷ vs) [] ends found r = let e : None ≡ Some v = r.0 in absurd cc
  last (v ∷ vs) (x ∷ rest) ends found r =
      let e : Some x ≡ Some v = r.0 in
      let same : v ≡ x = cc in
      let hence : Gives end (Some ((found ++ finds 1 v ∷ []) ++ map (finds 1) rest)) = last vs rest ends (found ++ finds 1 v ∷ []) r.1 in
      subst (λ y. Gives end (Some (found ++ finds 1 y ∷ map (finds 1) rest))) same (subst (λ f. Gives end (Some f)) (append_assoc found (finds 1 v ∷ []) (map (finds 1) rest)) hence)

  wide_has_ended : (vs : List Vid) (left : ℕ) (rest ends : List Vid) (found : List (List Found)) → Reads finds (at left rest ends found true) vs end → end.wide ≡ true
  wide_has_ended [] left rest ends found r = ap (λ w. w.wide) r.1
  wide_has_ended (v ∷ vs) left rest ends found r = let e : None ≡ Some v = r.0 in absurd cc

  -- an empty frontier
  nothing_over : (left : ℕ) → over_sets finds left [] ≡ Some []
  nothing_over zero = refl
  nothing_over (suc zero) = refl
  nothing_over (suc (suc left)) = nothing_over (suc left)

  nothing_read : (vs : List Vid) (left : ℕ) (ends : List Vid) → Reads finds (at left [] ends [] false) vs end → Gives end (over_sets finds left [])
  nothing_read [] left ends r = subst (λ o. Gives end o) (sym (nothing_over left)) (ap (λ w. w.wide) r.1, ap (λ w. w.found) r.1)
  nothing_read (v ∷ vs) left ends r = let e : None ≡ Some v = r.0 in absurd cc

  -- the steps before the last; `On` says it of each walk that is fed these reads
  abbrev On : List Vid → Type 0
  On vs = (n : ℕ) (x : Vid) (rest ends : List Vid) → Reads finds (at (suc (suc n)) (x ∷ rest) ends [] false) vs end → Gives end (behind (suc n) (all_ends (suc (suc n)) (x ∷ rest) ends))

  next_on : (vs : List Vid) → On vs → (n : ℕ) (frontier : List Vid) → Reads finds (at (suc n) frontier [] [] false) vs end → Gives end (over_sets finds (suc n) frontier)
  next_on vs on zero frontier r = last vs frontier [] [] r
  next_on vs on (suc n) [] r = nothing_read vs (suc (suc n)) [] r
  next_on vs on (suc n) (x ∷ frontier) r = on n x frontier [] r

  rest_on : (vs : List Vid) → On vs → (n : ℕ) (rest ends : List Vid) → nat_lt most_ends (length ends) ≡ false → Reads finds (gone_on (at (suc (suc n)) rest ends [] false)) vs end
      → Gives end (behind (suc n) (all_ends (suc (suc n)) rest ends))
  rest_on vs on n [] ends few r = subst (λ b. Gives end (if b then None else over_sets finds (suc n) ends)) (sym few)
      (let less : (suc (suc n)) - 1 ≡ suc n = omega arith in next_on vs on n ends (subst (λ k. Reads finds (at k ends [] [] false) vs end) less r))
  rest_on vs on n (x ∷ rest) ends few r =
      let w = at (suc (suc n)) (x ∷ rest) ends [] false in
      on n x rest ends (subst (λ b. Reads finds (if b then next_step w else w) vs end) (not_zero (length rest)) r)

  width_on : (vs : List Vid) → On vs → (n : ℕ) (rest ends : List Vid) (b : Bool) → nat_lt most_ends (length ends) ≡ b
      → Reads finds (if b then at (suc (suc n)) rest ends [] true else gone_on (at (suc (suc n)) rest ends [] false)) vs end
      → Gives end (behind (suc n) (all_ends (suc (suc n)) rest ends))
  width_on vs on n rest ends true many r =
      let all = all_ends (suc (suc n)) rest ends in
      let still : nat_lt most_ends (length all) ≡ true = more_stays (length ends) (length all) (grows ends (ends_from (finds (suc (suc n))) rest)) many in
      subst (λ b. Gives end (if b then None else over_sets finds (suc n) all)) (sym still) (wide_has_ended vs (suc (suc n)) rest ends [] r)
  width_on vs on n rest ends false few r = rest_on vs on n rest ends few r

  steps_on : (vs : List Vid) → On vs
  steps_on [] n x rest ends r = let e : Some x ≡ None = r.0 in absurd cc
  steps_on (v ∷ vs) n x rest ends r =
      let e : Some x ≡ Some v = r.0 in
      let same : v ≡ x = cc in
      let more = ends_from (finds (suc (suc n))) rest in
      let here = ends_in (finds (suc (suc n)) v) in
      let now = with_all ends here in
      let w = at (suc (suc n)) (x ∷ rest) ends [] false in
      let view = finds (suc (suc n)) v in
      let fed_on : Reads finds (passed w view) vs end = subst (λ b. Reads finds (if b then kept w view else passed w view) vs end) (not_one n) r.1 in
      let hence : Gives end (behind (suc n) (with_all now more)) = width_on vs (steps_on vs) n rest now (nat_lt most_ends (length now)) refl fed_on in
      subst (λ y. Gives end (behind (suc n) (with_all ends (ends_in (finds (suc (suc n)) y) ++ more)))) same
      (subst (λ l. Gives end (behind (suc n) l)) (put_more ends here more) hence)

pub goes_over_sets : (finds : Finds) (steps : ℕ) (start : List Vid) (types : List ℤ) (way : Way) (vs : List Vid) (end : Walk)
    → Reads finds (starting steps start types way) vs end → Gives end (over_sets finds steps (set_of start))
goes_over_sets finds zero start types way vs end r = nothing_read finds way types end vs zero [] r
goes_over_sets finds (suc n) start types way vs end r = next_on finds way types end vs (steps_on finds way types end vs) n (set_of start)
    (subst (λ b. Reads finds (at finds way types end (suc n) (if b then [] else set_of start) [] [] false) vs end) (not_zero n) r)
