-- Edges that join a list once each are a call's edges.
use Rattle.std.proofs.Common.{◌≡◌, ℕ, suc, pos, ◌+◌, ◌≤◌, ◌&&◌, ◌||◌, not, Bool, true, false, cond, List, [], ◌∷◌, ◌++◌, length, length-append, map, get_or, slice_get, set, Option, None, Some, if◌then◌else◌, refl, sym, ap, subst, ◌∙◌, inl, inr, arith}
use Rattle.std.proofs.Math.Seq.{map-set_same}
use Rattle.std.proofs.lemmas.List.{map-append}
use Rattle.std.proofs.lemmas.List.Folds.{list_all-append}
use Rattle.std.proofs.lemmas.List.Quantifiers.{position-Some}
use Rattle.std.proofs.lemmas.Option.{slice_get_cases}
use Rattle.std.proofs.lemmas.Iterator.Adapters.{position_from-zero}
use Rattle.std.specs.Prelude.{int_lt}
use Rattle.std.proofs.lemmas.Int.{ints}
use Rattle.std.specs.List.{list_all, fold, position_from}
use Rattle.std.specs.Option.{option_map}
use Rattle.std.specs.Ordering.{eq_by_cmp}
use Rattle.maps.specs.Keys.{has_key}
use Rattle.maps.proofs.Keys.{same_is, told_back, has_key-append}
use Rattle.graph_model.specs.declared.edge_id.EdgeId.{EdgeId}
use Rattle.graph_model.specs.declared.val.Val.{Val}
use Rattle.graph_model.specs.Edges.{edges_among, is_once_each, is_positive, are_edges}
use Rattle.graph_model.specs.Keys.{edge_cmp}
use Rattle.graph_model.proofs.EdgeLemmas.{edges_made}
use Rattle.graph_model.proofs.KeyLemmas.{edge_keys}
use Rattle.ngql_syntax.specs.declared.define.Column.{Column}
use Rattle.ngql_syntax.specs.declared.put.Ends.{Ends}
use Rattle.ngql_syntax.specs.declared.put.EdgeRow.{EdgeRow}
use Rattle.ngql_syntax.specs.declared.spanned.Spanned.{Spanned}
use Rattle.schema_book.specs.Ids.{edge_of}
use Rattle.schema_book.specs.Puts.{edge_rows, edge_beyond, ends_beyond, edge_place, joined, joined_at, once, edge_joined, edges_once}

-- each once and of a positive type, and at most so many
pub record Kept (es : List EdgeId) (most : ℕ) : Type 0 where
  pub single : is_once_each es ≡ true
  pub positive : list_all is_positive es ≡ true
  pub few : length es ≤ most

or_false : (a b : Bool) → (a || b) ≡ false → (a ≡ false) × (b ≡ false)
or_false true b h = cc
or_false false b h = (refl, h)

and_true : (a b : Bool) → (a && b) ≡ true → (a ≡ true) × (b ≡ true)
and_true true b h = (refl, h)
and_true false b h = cc

not_true : (a : Bool) → not a ≡ true → a ≡ false
not_true true h = cc
not_true false h = refl

single_behind : (es : List EdgeId) (e : EdgeId) → is_once_each es ≡ true → has_key edge_cmp e es ≡ false → is_once_each (es ++ e ∷ []) ≡ true
single_behind [] e h new = refl
single_behind (y ∷ ys) e h new =
    let p = and_true (not (has_key edge_cmp y ys)) (is_once_each ys) h in
    let q = or_false (eq_by_cmp edge_cmp e y) (has_key edge_cmp e ys) new in
    let out : has_key edge_cmp y (ys ++ e ∷ []) ≡ false =
    has_key-append edge_cmp y ys (e ∷ []) ∙ (λ i. not_true (has_key edge_cmp y ys) p.0 i || ((told_back edge_keys y e ∙ q.0) i || false)) in
    λ i. not (out i) && single_behind ys e p.1 q.1 i

kept_behind : (es : List EdgeId) (e : EdgeId) (most : ℕ) → Kept es most → is_positive e ≡ true → has_key edge_cmp e es ≡ false → Kept (es ++ e ∷ []) (most + 1)
kept_behind es e most k positive new = record {
  single = single_behind es e k.single new;
  positive = list_all-append is_positive es (e ∷ []) ∙ (λ i. k.positive i && (positive i && true));
  few = let f = k.few in omega (arith, length-append es (e ∷ []));
}

kept_more : (es : List EdgeId) (most : ℕ) → Kept es most → Kept es (most + 1)
kept_more es most k = record { single = k.single; positive = k.positive; few = let f = k.few in omega arith }

-- of edges alone
kept_edge_by : (b : Bool) (es : List EdgeId) (e : EdgeId) (most : ℕ) → has_key edge_cmp e es ≡ b → Kept es most → is_positive e ≡ true → Kept (if b then es else es ++ e ∷ []) (most + 1)
kept_edge_by true es e most is k positive = kept_more es most k
kept_edge_by false es e most is k positive = kept_behind es e most k positive is

kept_edges : (edges kept : List EdgeId) (most : ℕ) → Kept kept most → list_all is_positive edges ≡ true → Kept (fold edge_joined kept edges) (most + length edges)
kept_edges [] kept most k positive = record { single = k.single; positive = k.positive; few = let f = k.few in omega arith }
kept_edges (e ∷ edges) kept most k positive =
    let p = and_true (is_positive e) (list_all is_positive edges) positive in
    let next = kept_edges edges (edge_joined kept e) (most + 1) (kept_edge_by (has_key edge_cmp e kept) kept e most refl k p.0) p.1 in
    record { single = next.single; positive = next.positive; few = let f = next.few in omega arith }

pub once_are_edges : (edges : List EdgeId) → list_all is_positive edges ≡ true → length edges ≤ 64 → 1 ≤ length (edges_once edges) → are_edges (edges_once edges) ≡ true
once_are_edges edges positive short some =
    let k = kept_edges edges [] 0 (record { single = refl; positive = refl; few = omega arith }) positive in
    edges_made (edges_once edges) (record { some = some; few = let f = k.few in omega arith; once = k.single; positive = k.positive })

-- of edges with their rows
none_by : (b : Bool) (n : ℕ) (o : Option ℕ) (rest : Bool) → cond b (Some n) o ≡ None → (o ≡ None → rest ≡ false) → (b || rest) ≡ false
none_by true n o rest h below = cc
none_by false n o rest h below = below h

none_key : (e : EdgeId) (kept : List (EdgeId × List Val)) (n : ℕ) → position_from (λ x. eq_by_cmp edge_cmp e x.0) n kept ≡ None → has_key edge_cmp e (edges_among kept) ≡ false
none_key e [] n h = refl
none_key e (x ∷ kept) n h = none_by (eq_by_cmp edge_cmp e x.0) n _ (has_key edge_cmp e (edges_among kept)) h (none_key e kept (n + 1))

same_there : (kept : List (EdgeId × List Val)) (x : EdgeId × List Val) (i : ℕ) → edge_place x.0 kept ≡ Some i → edges_among (set kept i x) ≡ edges_among kept
same_there kept x i at =
    let p = position-Some (λ (y : EdgeId × List Val). eq_by_cmp edge_cmp x.0 y.0) kept i x (position_from-zero (λ (y : EdgeId × List Val). eq_by_cmp edge_cmp x.0 y.0) kept ∙ at) in
    map-set_same (λ (y : EdgeId × List Val). y.0) kept i x x (same_is edge_keys x.0 (get_or kept i x).0 p.1)

joined_kept : (absent : Bool) (kept : List (EdgeId × List Val)) (x : EdgeId × List Val) (most : ℕ) (o : Option ℕ) → edge_place x.0 kept ≡ o → Kept (edges_among kept) most → is_positive x.0 ≡ true
    → Kept (edges_among (joined_at absent kept x o)) (most + 1)
joined_kept absent kept x most None at k positive =
    subst (λ es. Kept es (most + 1)) (sym (map-append (λ (y : EdgeId × List Val). y.0) kept (x ∷ []))) (kept_behind (edges_among kept) x.0 most k positive (none_key x.0 kept 0 at))
joined_kept true kept x most (Some i) at k positive = kept_more (edges_among kept) most k
joined_kept false kept x most (Some i) at k positive = subst (λ es. Kept es (most + 1)) (sym (same_there kept x i at)) (kept_more (edges_among kept) most k)

kept_rows : (absent : Bool) (rows kept : List (EdgeId × List Val)) (most : ℕ) → Kept (edges_among kept) most → list_all is_positive (edges_among rows) ≡ true
    → Kept (edges_among (fold (joined absent) kept rows)) (most + length rows)
kept_rows absent [] kept most k positive = record { single = k.single; positive = k.positive; few = let f = k.few in omega arith }
kept_rows absent (x ∷ rows) kept most k positive =
    let p = and_true (is_positive x.0) (list_all is_positive (edges_among rows)) positive in
    let next = kept_rows absent rows (joined absent kept x) (most + 1) (joined_kept absent kept x most (edge_place x.0 kept) refl k p.0) p.1 in
    record { single = next.single; positive = next.positive; few = let f = next.few in omega arith }

pub rows_are_edges : (absent : Bool) (rows : List (EdgeId × List Val)) → list_all is_positive (edges_among rows) ≡ true → length rows ≤ 64 → 1 ≤ length (edges_among (once absent rows))
    → are_edges (edges_among (once absent rows)) ≡ true
rows_are_edges absent rows positive short some =
    let k = kept_rows absent rows [] 0 (record { single = refl; positive = refl; few = omega arith }) positive in
    edges_made (edges_among (once absent rows)) (record { some = some; few = let f = k.few in omega arith; once = k.single; positive = k.positive })

above : (place : ℕ) → int_lt (pos 0) (pos (place + 1)) ≡ true
above place = grind (arith, ints)

-- edges of one positive type, at most so many as a call has
pub edges_positive : (place : ℕ) (list : List Ends) → list_all is_positive (map (edge_of place) list) ≡ true
edges_positive place [] = refl
edges_positive place (e ∷ list) = λ i. above place i && edges_positive place list i

pub rows_positive : (place : ℕ) (columns : List Column) (names : List Spanned) (rows : List EdgeRow) → list_all is_positive (edges_among (edge_rows place columns names rows)) ≡ true
rows_positive place columns names [] = refl
rows_positive place columns names (r ∷ rows) = λ i. above place i && rows_positive place columns names rows i

some_is_none : {A : Type 0} (x : A) → Some x ≡ None → ⊥
some_is_none x h = cc

slice_get_none : {A : Type 0} (xs : List A) (i : ℕ) → slice_get xs i ≡ None → length xs ≤ i
slice_get_none xs i h = elim (slice_get_cases xs i).1 [ inl x ↦ absurd (some_is_none _ (sym x.2 ∙ h)) | inr p ↦ p.0 ]

none_mapped : {A B : Type 0} (f : A → B) (o : Option A) → option_map f o ≡ None → o ≡ None
none_mapped f None h = refl
none_mapped f (Some x) h = cc

pub ends_few : (list : List Ends) → ends_beyond list ≡ None → length list ≤ 64
unfolding ends_beyond
ends_few list h = slice_get_none list 64 (none_mapped _ (slice_get list 64) h)

pub rows_few : (rows : List EdgeRow) → edge_beyond rows ≡ None → length rows ≤ 64
unfolding edge_beyond
rows_few rows h = slice_get_none rows 64 (none_mapped _ (slice_get rows 64) h)

pub long_ends_map : (place : ℕ) (list : List Ends) → length (map (edge_of place) list) ≡ length list
long_ends_map place [] = refl
long_ends_map place (e ∷ list) = ap suc (long_ends_map place list)

pub long_rows_map : (place : ℕ) (columns : List Column) (names : List Spanned) (rows : List EdgeRow) → length (edge_rows place columns names rows) ≡ length rows
long_rows_map place columns names [] = refl
long_rows_map place columns names (r ∷ rows) = ap suc (long_rows_map place columns names rows)

pub long_among : (rows : List (EdgeId × List Val)) → length (edges_among rows) ≡ length rows
long_among [] = refl
long_among (r ∷ rows) = ap suc (long_among rows)
