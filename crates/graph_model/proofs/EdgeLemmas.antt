-- Lists of edges that keep their rule.
use Rattle.std.proofs.Common.{◌≡◌, ◌≢◌, ℕ, ◌+◌, ◌≤◌, Bool, true, false, not, leb, cond, List, [], ◌∷◌, map, length, refl, ap, ◌∙◌, arith}
use Rattle.std.specs.Prelude.{◌&&◌, ◌||◌}
use Rattle.std.specs.List.{filter, list_all}
use Rattle.std.specs.FinMap.{FinMap, contains_key}
use Rattle.std.specs.Ordering.{eq_by_cmp}
use Rattle.std.proofs.lemmas.Bool.{and_parts, or_parts, leb-true, le-leb}
use Rattle.graph_model.specs.declared.val.Val.{Val}
use Rattle.graph_model.specs.declared.edge_id.EdgeId.{EdgeId}
use Rattle.graph_model.specs.declared.half.Half.{Half}
use Rattle.graph_model.specs.declared.half.Half.TheVariants.{Absent}
use Rattle.graph_model.specs.Keys.{edge_cmp}
use Rattle.graph_model.specs.Edges.{edges_in, is_once_each, is_positive, are_edges}
use Rattle.maps.specs.Keys.{has_key}
use Rattle.maps.specs.Lists.{missing}

-- the edges of halves that are all Absent
pub edges_removed : (edges : List EdgeId) → edges_in (map (λ e. (e, Absent)) edges) ≡ edges
edges_removed [] = refl
edges_removed (e ∷ edges) = ap (λ es. e ∷ es) (edges_removed edges)

-- the rule in parts: 1 to 64 edges, none twice, each of a positive type
pub record AreEdges (es : List EdgeId) : Type 0 where
  pub some : 1 ≤ length es
  pub few : length es ≤ 64
  pub once : is_once_each es ≡ true
  pub positive : list_all is_positive es ≡ true

pub edges_made : (es : List EdgeId) → AreEdges es → are_edges es ≡ true
edges_made es are =
    ap (λ (t : Bool). t && (leb (length es) 64 && (is_once_each es && list_all is_positive es))) (le-leb 1 (length es) are.some)
    ∙ ap (λ (t : Bool). t && (is_once_each es && list_all is_positive es)) (le-leb (length es) 64 are.few)
    ∙ ap (λ (t : Bool). t && list_all is_positive es) are.once
    ∙ are.positive

pub edges_held : (es : List EdgeId) → are_edges es ≡ true → AreEdges es
edges_held es are =
    let a = and_parts (leb 1 (length es)) (leb (length es) 64 && (is_once_each es && list_all is_positive es)) are in
    let b = and_parts (leb (length es) 64) (is_once_each es && list_all is_positive es) a.1 in
    let c = and_parts (is_once_each es) (list_all is_positive es) b.1 in
    record { some = leb-true _ _ a.0; few = leb-true _ _ b.0; once = c.0; positive = c.1 }

-- what a test leaves of a list of halves

none_by : (b : Bool) (q : EdgeId) (x : EdgeId × Half) (xs : List (EdgeId × Half)) → eq_by_cmp edge_cmp q x.0 ≡ false → has_key edge_cmp q (edges_in xs) ≡ false → has_key edge_cmp q (edges_in (cond b (x ∷ xs) xs)) ≡ false
none_by true q x xs differs out = ap (λ (t : Bool). t || has_key edge_cmp q (edges_in xs)) differs ∙ out
none_by false q x xs differs out = out

none_left : (p : EdgeId × Half → Bool) (q : EdgeId) (list : List (EdgeId × Half)) → has_key edge_cmp q (edges_in list) ≡ false → has_key edge_cmp q (edges_in (filter p list)) ≡ false
none_left p q [] out = refl
none_left p q (x ∷ list) out = let both = or_parts _ _ out in none_by (p x) q x (filter p list) both.0 (none_left p q list both.1)

not_false : (b : Bool) → not b ≡ true → b ≡ false
not_false true e = absurd cc
not_false false e = refl

once_by : (b : Bool) (x : EdgeId × Half) (xs : List (EdgeId × Half)) → has_key edge_cmp x.0 (edges_in xs) ≡ false → is_once_each (edges_in xs) ≡ true → is_once_each (edges_in (cond b (x ∷ xs) xs)) ≡ true
once_by true x xs out once = ap (λ (t : Bool). not t && is_once_each (edges_in xs)) out ∙ once
once_by false x xs out once = once

once_left : (p : EdgeId × Half → Bool) (list : List (EdgeId × Half)) → is_once_each (edges_in list) ≡ true → is_once_each (edges_in (filter p list)) ≡ true
once_left p [] once = refl
once_left p (x ∷ list) once =
    let both = and_parts (not (has_key edge_cmp x.0 (edges_in list))) (is_once_each (edges_in list)) once in
    once_by (p x) x (filter p list) (none_left p x.0 list (not_false _ both.0)) (once_left p list both.1)

positive_by : (b : Bool) (x : EdgeId × Half) (xs : List (EdgeId × Half)) → is_positive x.0 ≡ true → list_all is_positive (edges_in xs) ≡ true → list_all is_positive (edges_in (cond b (x ∷ xs) xs)) ≡ true
positive_by true x xs one rest = ap (λ (t : Bool). t && list_all is_positive (edges_in xs)) one ∙ rest
positive_by false x xs one rest = rest

positive_left : (p : EdgeId × Half → Bool) (list : List (EdgeId × Half)) → list_all is_positive (edges_in list) ≡ true → list_all is_positive (edges_in (filter p list)) ≡ true
positive_left p [] all = refl
positive_left p (x ∷ list) all =
    let both = and_parts (is_positive x.0) (list_all is_positive (edges_in list)) all in
    positive_by (p x) x (filter p list) both.0 (positive_left p list both.1)

fewer_by : (b : Bool) (x : EdgeId × Half) (xs : List (EdgeId × Half)) (n : ℕ) → length (edges_in xs) ≤ n → length (edges_in (cond b (x ∷ xs) xs)) ≤ n + 1
fewer_by true x xs n fewer = omega (arith, fewer)
fewer_by false x xs n fewer = omega (arith, fewer)

fewer_left : (p : EdgeId × Half → Bool) (list : List (EdgeId × Half)) → length (edges_in (filter p list)) ≤ length (edges_in list)
fewer_left p [] = omega arith
fewer_left p (x ∷ list) = let t = fewer_by (p x) x (filter p list) (length (edges_in list)) (fewer_left p list) in omega (arith, t)

one_left : (list : List (EdgeId × Half)) → list ≢ [] → 1 ≤ length (edges_in list)
one_left [] some = absurd (some refl)
one_left (x ∷ list) some = omega arith

-- what IF NOT EXISTS leaves of a list that keeps the rule keeps it, where an edge is left
pub are_missing : {R : EdgeId → EdgeId → _} (out : FinMap R (List Val)) (list : List (EdgeId × Half)) → are_edges (edges_in list) ≡ true → missing out list ≢ [] → are_edges (edges_in (missing out list)) ≡ true
are_missing out list are some =
    let were = edges_held (edges_in list) are in
    let test : EdgeId × Half → Bool = λ x. not (contains_key out x.0) in
    let fewer = fewer_left test list in
    edges_made (edges_in (missing out list)) (record {
      some = one_left (missing out list) some;
      few = omega (arith, fewer, were.few);
      once = once_left test list were.once;
      positive = positive_left test list were.positive;
    })
