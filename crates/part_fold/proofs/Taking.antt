-- What a test leaves of a list of edges.
use Rattle.std.proofs.Common.{◌≡◌, ◌≢◌, ℕ, ◌+◌, ◌≤◌, List, [], ◌∷◌, length, filter, Bool, true, false, cond, refl, ap, ◌∙◌, arith}
use Rattle.std.specs.Prelude.{not, ◌&&◌, ◌||◌}
use Rattle.std.specs.Ordering.{eq_by_cmp}
use Rattle.std.specs.List.{list_all}
use Rattle.std.specs.FinMap.{FinMap, contains_key}
use Rattle.std.proofs.lemmas.Bool.{and_parts, or_parts}
use Rattle.graph_model.specs.Edges.{edges_in, is_once_each, is_positive, are_edges}
use Rattle.graph_model.specs.Keys.{edge_cmp}
use Rattle.graph_model.specs.declared.edge_id.EdgeId.{EdgeId}
use Rattle.graph_model.specs.declared.half.Half.{Half}
use Rattle.graph_model.specs.declared.val.Val.{Val}
use Rattle.graph_model.proofs.EdgeLemmas.{edges_held, edges_made}
use Rattle.maps.specs.Keys.{has_key}
use Rattle.maps.specs.Lists.{has_all, missing}

none_by : (b : Bool) (q : EdgeId) (x : EdgeId × Half) (xs : List (EdgeId × Half)) → eq_by_cmp edge_cmp q x.0 ≡ false → has_key edge_cmp q (edges_in xs) ≡ false → has_key edge_cmp q (edges_in (cond b (x ∷ xs) xs)) ≡ false
none_by true q x xs differs out = ap (λ (t : Bool). t || has_key edge_cmp q (edges_in xs)) differs ∙ out
none_by false q x xs differs out = out

none_left : (p : EdgeId × Half → Bool) (q : EdgeId) (list : List (EdgeId × Half)) → has_key edge_cmp q (edges_in list) ≡ false → has_key edge_cmp q (edges_in (filter p list)) ≡ false
none_left p q [] out = refl
none_left p q (x ∷ list) out = let both = or_parts _ _ out in none_by (p x) q x (filter p list) both.0 (none_left p q list both.1)

not_false : (b : Bool) → not b ≡ true → b ≡ false
not_false true e = absurd cc
not_false false e = refl

once_by : (b : Bool) (x : EdgeId × Half) (xs : List (EdgeId × Half)) → has_key edge_cmp x.0 (edges_in xs) ≡ false → is_once_each (edges_in xs) ≡ true → is_once_each (edges_in (cond b (x ∷ xs) xs)) ≡ true
once_by true x xs out once = ap (λ (t : Bool). not t && is_once_each (edges_in xs)) out ∙ once
once_by false x xs out once = once

pub once_left : (p : EdgeId × Half → Bool) (list : List (EdgeId × Half)) → is_once_each (edges_in list) ≡ true → is_once_each (edges_in (filter p list)) ≡ true
once_left p [] once = refl
once_left p (x ∷ list) once =
    let both = and_parts (not (has_key edge_cmp x.0 (edges_in list))) (is_once_each (edges_in list)) once in
    once_by (p x) x (filter p list) (none_left p x.0 list (not_false _ both.0)) (once_left p list both.1)

positive_by : (b : Bool) (x : EdgeId × Half) (xs : List (EdgeId × Half)) → is_positive x.0 ≡ true → list_all is_positive (edges_in xs) ≡ true → list_all is_positive (edges_in (cond b (x ∷ xs) xs)) ≡ true
positive_by true x xs one rest = ap (λ (t : Bool). t && list_all is_positive (edges_in xs)) one ∙ rest
positive_by false x xs one rest = rest

positive_left : (p : EdgeId × Half → Bool) (list : List (EdgeId × Half)) → list_all is_positive (edges_in list) ≡ true → list_all is_positive (edges_in (filter p list)) ≡ true
positive_left p [] all = refl
positive_left p (x ∷ list) all =
    let both = and_parts (is_positive x.0) (list_all is_positive (edges_in list)) all in
    positive_by (p x) x (filter p list) both.0 (positive_left p list both.1)

fewer_by : (b : Bool) (x : EdgeId × Half) (xs : List (EdgeId × Half)) (n : ℕ) → length (edges_in xs) ≤ n → length (edges_in (cond b (x ∷ xs) xs)) ≤ n + 1
fewer_by true x xs n fewer = omega (arith, fewer)
fewer_by false x xs n fewer = omega (arith, fewer)

fewer_left : (p : EdgeId × Half → Bool) (list : List (EdgeId × Half)) → length (edges_in (filter p list)) ≤ length (edges_in list)
fewer_left p [] = omega arith
fewer_left p (x ∷ list) = let t = fewer_by (p x) x (filter p list) (length (edges_in list)) (fewer_left p list) in omega (arith, t)

one_left : (list : List (EdgeId × Half)) → list ≢ [] → 1 ≤ length (edges_in list)
one_left [] some = absurd (some refl)
one_left (x ∷ list) some = omega arith

-- what is left of a list that keeps the rule keeps it, where an edge is left
pub are_left : (test : EdgeId × Half → Bool) (list : List (EdgeId × Half)) → are_edges (edges_in list) ≡ true → filter test list ≢ [] → are_edges (edges_in (filter test list)) ≡ true
are_left test list are some =
    let were = edges_held (edges_in list) are in
    let fewer = fewer_left test list in
    edges_made (edges_in (filter test list)) (record {
      some = one_left (filter test list) some;
      few = omega (arith, fewer, were.few);
      once = once_left test list were.once;
      positive = positive_left test list were.positive;
    })

-- where none is missing, all are here
pub none_missing : (out : FinMap edge_cmp (List Val)) (list : List (EdgeId × Half)) → missing out list ≡ [] → has_all out (edges_in list) ≡ true
none_missing out [] none = refl
none_missing out (x ∷ list) none =
    elim (contains_key out x.0) as (λ b. cond (not b) (x ∷ missing out list) (missing out list) ≡ [] → (b && has_all out (edges_in list)) ≡ true) [
      | true ↦ λ more. none_missing out list more
      | false ↦ λ more. absurd cc
    ] none

-- where not all are here, what is missing is a list of edges
pub missing_edges : (out : FinMap edge_cmp (List Val)) (list : List (EdgeId × Half)) → are_edges (edges_in list) ≡ true → has_all out (edges_in list) ≡ false → are_edges (edges_in (missing out list)) ≡ true
missing_edges out list are some = are_left (λ e. not (contains_key out e.0)) list are (λ none. let all = none_missing out list none in cc)
