-- What a test leaves of a list of edges.
use Rattle.std.proofs.Common.{◌≡◌, ◌≢◌, ℕ, ◌+◌, ◌≤◌, List, [], ◌∷◌, ◌++◌, length, filter, Bool, true, false, cond, refl, ap, sym, ◌∙◌, append_assoc, arith}
use Rattle.std.specs.Prelude.{not, ◌&&◌, ◌||◌}
use Rattle.std.specs.Ordering.{eq_by_cmp}
use Rattle.std.specs.List.{AllByRecursion, list_all}
use Rattle.std.proofs.lemmas.Bool.{and_parts, or_parts}
use Rattle.graph_model.specs.Edges.{edges_in, is_once_each, is_positive, are_edges}
use Rattle.graph_model.specs.Keys.{edge_cmp}
use Rattle.graph_model.specs.declared.edge_id.EdgeId.{EdgeId}
use Rattle.graph_model.specs.declared.half.Half.{Half}
use Rattle.graph_model.proofs.EdgeLemmas.{edges_held, edges_made}
use Rattle.maps.specs.Keys.{has_key}

-- one that passes, and one that doesn't
pub keep_more : {A : Type 0} (t : A → Bool) (made rest : List A) (x : A) → t x ≡ true → (made ++ x ∷ []) ++ filter t rest ≡ made ++ filter t (x ∷ rest)
keep_more t made rest x passes = append_assoc made (x ∷ []) (filter t rest) ∙ ap (λ b. made ++ cond b (x ∷ filter t rest) (filter t rest)) (sym passes)

pub skip_more : {A : Type 0} (t : A → Bool) (made rest : List A) (x : A) → t x ≡ false → made ++ filter t rest ≡ made ++ filter t (x ∷ rest)
skip_more t made rest x fails = ap (λ b. made ++ cond b (x ∷ filter t rest) (filter t rest)) (sym fails)

all_by : {A : Type 0} (P : A → Type 0) (b : Bool) (x : A) (xs : List A) → P x → AllByRecursion P xs → AllByRecursion P (cond b (x ∷ xs) xs)
all_by P true x xs h all = (h, all)
all_by P false x xs h all = all

-- what holds of each holds of each that is left
pub all_left : {A : Type 0} (P : A → Type 0) (t : A → Bool) (xs : List A) → AllByRecursion P xs → AllByRecursion P (filter t xs)
all_left P t [] all = tt
all_left P t (x ∷ xs) all = all_by P (t x) x (filter t xs) all.0 (all_left P t xs all.1)

-- what a test leaves of a list of halves

none_by : (b : Bool) (q : EdgeId) (x : EdgeId × Half) (xs : List (EdgeId × Half)) → eq_by_cmp edge_cmp q x.0 ≡ false → has_key edge_cmp q (edges_in xs) ≡ false → has_key edge_cmp q (edges_in (cond b (x ∷ xs) xs)) ≡ false
none_by true q x xs differs out = ap (λ (t : Bool). t || has_key edge_cmp q (edges_in xs)) differs ∙ out
none_by false q x xs differs out = out

none_left : (p : EdgeId × Half → Bool) (q : EdgeId) (list : List (EdgeId × Half)) → has_key edge_cmp q (edges_in list) ≡ false → has_key edge_cmp q (edges_in (filter p list)) ≡ false
none_left p q [] out = refl
none_left p q (x ∷ list) out = let both = or_parts _ _ out in none_by (p x) q x (filter p list) both.0 (none_left p q list both.1)

not_false : (b : Bool) → not b ≡ true → b ≡ false
not_false true e = absurd cc
not_false false e = refl

once_by : (b : Bool) (x : EdgeId × Half) (xs : List (EdgeId × Half)) → has_key edge_cmp x.0 (edges_in xs) ≡ false → is_once_each (edges_in xs) ≡ true → is_once_each (edges_in (cond b (x ∷ xs) xs)) ≡ true
once_by true x xs out once = ap (λ (t : Bool). not t && is_once_each (edges_in xs)) out ∙ once
once_by false x xs out once = once

pub once_left : (p : EdgeId × Half → Bool) (list : List (EdgeId × Half)) → is_once_each (edges_in list) ≡ true → is_once_each (edges_in (filter p list)) ≡ true
once_left p [] once = refl
once_left p (x ∷ list) once =
    let both = and_parts (not (has_key edge_cmp x.0 (edges_in list))) (is_once_each (edges_in list)) once in
    once_by (p x) x (filter p list) (none_left p x.0 list (not_false _ both.0)) (once_left p list both.1)

positive_by : (b : Bool) (x : EdgeId × Half) (xs : List (EdgeId × Half)) → is_positive x.0 ≡ true → list_all is_positive (edges_in xs) ≡ true → list_all is_positive (edges_in (cond b (x ∷ xs) xs)) ≡ true
positive_by true x xs one rest = ap (λ (t : Bool). t && list_all is_positive (edges_in xs)) one ∙ rest
positive_by false x xs one rest = rest

positive_left : (p : EdgeId × Half → Bool) (list : List (EdgeId × Half)) → list_all is_positive (edges_in list) ≡ true → list_all is_positive (edges_in (filter p list)) ≡ true
positive_left p [] all = refl
positive_left p (x ∷ list) all =
    let both = and_parts (is_positive x.0) (list_all is_positive (edges_in list)) all in
    positive_by (p x) x (filter p list) both.0 (positive_left p list both.1)

fewer_by : (b : Bool) (x : EdgeId × Half) (xs : List (EdgeId × Half)) (n : ℕ) → length (edges_in xs) ≤ n → length (edges_in (cond b (x ∷ xs) xs)) ≤ n + 1
fewer_by true x xs n fewer = omega (arith, fewer)
fewer_by false x xs n fewer = omega (arith, fewer)

fewer_left : (p : EdgeId × Half → Bool) (list : List (EdgeId × Half)) → length (edges_in (filter p list)) ≤ length (edges_in list)
fewer_left p [] = omega arith
fewer_left p (x ∷ list) = let t = fewer_by (p x) x (filter p list) (length (edges_in list)) (fewer_left p list) in omega (arith, t)

one_left : (list : List (EdgeId × Half)) → list ≢ [] → 1 ≤ length (edges_in list)
one_left [] some = absurd (some refl)
one_left (x ∷ list) some = omega arith

-- what is left of a list that keeps the rule keeps it, where an edge is left
pub are_left : (test : EdgeId × Half → Bool) (list : List (EdgeId × Half)) → are_edges (edges_in list) ≡ true → filter test list ≢ [] → are_edges (edges_in (filter test list)) ≡ true
are_left test list are some =
    let were = edges_held (edges_in list) are in
    let fewer = fewer_left test list in
    edges_made (edges_in (filter test list)) (record {
      some = one_left (filter test list) some;
      few = omega (arith, fewer, were.few);
      once = once_left test list were.once;
      positive = positive_left test list were.positive;
    })

-- A loop that keeps what passes: it met one that passes, or one that doesn't.
pub kept_on : {A : Type 0} (t : A → Bool) (made more left rest all : List A) (x : A) → left ≡ x ∷ rest → more ≡ made ++ x ∷ [] → t x ≡ true → made ++ filter t left ≡ all → more ++ filter t rest ≡ all
kept_on t made more left rest all x is grown passes before = ap (λ l. l ++ filter t rest) grown ∙ keep_more t made rest x passes ∙ ap (λ l. made ++ filter t l) (sym is) ∙ before

pub skipped_on : {A : Type 0} (t : A → Bool) (made left rest all : List A) (x : A) → left ≡ x ∷ rest → t x ≡ false → made ++ filter t left ≡ all → made ++ filter t rest ≡ all
skipped_on t made left rest all x is fails before = skip_more t made rest x fails ∙ ap (λ l. made ++ filter t l) (sym is) ∙ before
