-- A range between an end before a vertex' keys and one after them holds all of them, and what is found of the vertex is
-- found in the range.
use Rattle.std.proofs.Common.{◌≡◌, inl, inr, List, [], ◌∷◌, Option, Some, None, cond, Bool, true, false, refl, ap, sym, subst, ◌∙◌, filter, ℤ}
use Rattle.std.specs.Prelude.{not, ◌&&◌, if◌then◌else◌}
use Rattle.std.specs.List.{filter_map, cons_option, list_any}
use Rattle.std.specs.declared.cmp.Ordering.{Ordering}
use Rattle.std.specs.declared.cmp.Ordering.TheVariants.{Less, Greater}
use Rattle.std.specs.declared.ops.Bound.{Bound}
use Rattle.std.specs.declared.ops.Bound.TheVariants.{Included, Excluded, Unbounded}
use Rattle.std.specs.Ordering.{int_cmp, int_eq, eq_by_cmp, ordering_reverse, is_gt, is_lt, is_le, ordering_then}
use Rattle.std.specs.BTreeMap.Range.{is_from_start, is_past_end, range_contains, entries_between}
use Rattle.graph_model.specs.declared.val.Val.{Val}
use Rattle.graph_model.specs.declared.vid.Vid.{Vid}
use Rattle.graph_model.specs.declared.edge_id.EdgeId.{EdgeId}
use Rattle.graph_model.specs.declared.in_key.InKey.{InKey}
use Rattle.graph_model.specs.Keys.{vid_cmp, edge_cmp, in_cmp, edge_of}
use Rattle.graph_model.specs.Views.{found_out, found_in}
use Rattle.graph_model.specs.Ranges.{IsBefore, StartsBefore, EndsAfter, RunsForward, HoldsAllOf}
use Rattle.graph_model.proofs.KeyLemmas.{vid_keys}
use Rattle.maps.specs.Places.{place_read}
use Rattle.maps.proofs.Keys.{same_or_apart}

-- keys are ordered by their vertices first
abbrev pub IsByVertex : {K : Type 0} → (K → K → Ordering) → (K → Vid) → Type 0
IsByVertex {K} R vertex = (a b : K) → (vid_cmp (vertex a) (vertex b) ≡ Less → R a b ≡ Less) × (vid_cmp (vertex a) (vertex b) ≡ Greater → R a b ≡ Greater)

both : (a b : Bool) → a ≡ true → b ≡ false → (a && not b) ≡ true
both true true e f = cc
both true false e f = refl
both false b e f = cc

turned : (v w : Vid) → IsBefore v w → vid_cmp w v ≡ Greater
turned v w l = vid_keys.total.antisymm w v ∙ ap ordering_reverse l

module _ {K : Type 0} (R : K → K → Ordering) (vertex : K → Vid) (by_vertex : IsByVertex R vertex) where
  before : (a b : K) (v : Vid) → IsBefore (vertex a) v → vertex b ≡ v → R a b ≡ Less
  before a b v l e = (by_vertex a b).0 (subst (λ x. IsBefore (vertex a) x) (sym e) l)

  after : (a b : K) (v : Vid) → IsBefore v (vertex a) → vertex b ≡ v → R a b ≡ Greater
  after a b v l e = (by_vertex a b).1 (subst (λ x. vid_cmp (vertex a) x ≡ Greater) (sym e) (turned v (vertex a) l))

  across : (a b : K) (v : Vid) → IsBefore (vertex a) v → IsBefore v (vertex b) → R a b ≡ Less
  across a b v l m = (by_vertex a b).0 (vid_keys.total.trans (vertex a) v (vertex b) l m)

  start_inside : (low : Bound K) (v : Vid) (k : K) → StartsBefore vertex v low → vertex k ≡ v → is_from_start R low k ≡ true
  start_inside (Included a) v k l e = ap is_le (before a k v l e)
  start_inside (Excluded a) v k l e = ap is_lt (before a k v l e)
  start_inside Unbounded v k l e = refl

  end_inside : (high : Bound K) (v : Vid) (k : K) → EndsAfter vertex v high → vertex k ≡ v → is_past_end R high k ≡ false
  end_inside (Included b) v k l e = ap is_lt (after b k v l e)
  end_inside (Excluded b) v k l e = ap is_le (after b k v l e)
  end_inside Unbounded v k l e = refl

  pub holds_all : (low high : Bound K) (v : Vid) → StartsBefore vertex v low → EndsAfter vertex v high → HoldsAllOf R vertex v (low, high)
  holds_all low high v l m k e = both _ _ (start_inside low v k l e) (end_inside high v k m e)

  pub runs_forward : (low high : Bound K) (v : Vid) → StartsBefore vertex v low → EndsAfter vertex v high → RunsForward R (low, high)
  runs_forward (Included a) (Included b) v l m = ap is_gt (across a b v l m)
  runs_forward (Included a) (Excluded b) v l m = ap is_gt (across a b v l m)
  runs_forward (Included a) Unbounded v l m = tt
  runs_forward (Excluded a) (Included b) v l m = ap is_gt (across a b v l m)
  runs_forward (Excluded a) (Excluded b) v l m = across a b v l m
  runs_forward (Excluded a) Unbounded v l m = tt
  runs_forward Unbounded high v l m = tt

pub edges_by_vertex : IsByVertex edge_cmp (λ e. e.src)
edges_by_vertex a b =
    let rest = ordering_then (int_cmp a.etype b.etype) (ordering_then (int_cmp a.rank b.rank) (vid_cmp a.dst b.dst)) in
    (λ e. ap (λ o. ordering_then o rest) e, λ e. ap (λ o. ordering_then o rest) e)

pub ins_by_vertex : IsByVertex in_cmp (λ k. k.dst)
ins_by_vertex a b =
    let rest = ordering_then (int_cmp a.back b.back) (ordering_then (int_cmp a.rank b.rank) (ordering_then (vid_cmp a.src b.src) (int_cmp a.etype b.etype))) in
    (λ e. ap (λ o. ordering_then o rest) e, λ e. ap (λ o. ordering_then o rest) e)

-- what is found of an element goes before what is found of the rest
one_within : {X Y : Type 0} (f : X → Option Y) (x : X) (part xs : List X) (b : Bool) → (b ≡ false → f x ≡ None) → filter_map f part ≡ filter_map f xs → filter_map f (cond b (x ∷ part) part) ≡ filter_map f (x ∷ xs)
one_within f x part xs true outside more = ap (cons_option (f x)) more
one_within f x part xs false outside more = more ∙ ap (λ o. cons_option o (filter_map f xs)) (sym (outside refl))

-- a filter that loses nothing of what f finds
filter_map_within : {X Y : Type 0} (f : X → Option Y) (p : X → Bool) → ((x : X) → p x ≡ false → f x ≡ None) → (xs : List X) → filter_map f (filter p xs) ≡ filter_map f xs
filter_map_within f p outside [] = refl
filter_map_within f p outside (x ∷ xs) = one_within f x (filter p xs) xs (p x) (outside x) (filter_map_within f p outside xs)

-- a key outside of a vertex' range has another vertex
outside_other : {K : Type 0} (R : K → K → Ordering) (vertex : K → Vid) (v : Vid) (ends : Bound K × Bound K) → HoldsAllOf R vertex v ends → (k : K) → range_contains R ends.0 ends.1 k ≡ false → eq_by_cmp vid_cmp v (vertex k) ≡ false
outside_other R vertex v ends all k outside =
    elim (same_or_apart vid_keys v (vertex k)) [
      | inl same ↦ (let inside = all k (sym same) in cc)
      | inr apart ↦ apart
    ]

none_read : {K X Y : Type 0} (f : K × X → Option Y) (k : K) (w : Option X) → ((x : X) → f (k, x) ≡ None) → place_read f k w ≡ None
none_read f k None none = refl
none_read f k (Some x) none = none x

-- what f finds of one vertex is found in the places of the vertex' range
found_within : {K X Y : Type 0} (R : K → K → Ordering) (vertex : K → Vid) (v : Vid) (ends : Bound K × Bound K) → HoldsAllOf R vertex v ends
    → (f : K × X → Option Y) → ((k : K) (x : X) → eq_by_cmp vid_cmp v (vertex k) ≡ false → f (k, x) ≡ None) → (es : List (K × Option X))
    → filter_map (λ e. place_read f e.0 e.1) (entries_between R ends.0 ends.1 es) ≡ filter_map (λ e. place_read f e.0 e.1) es
found_within R vertex v ends all f other es =
    filter_map_within (λ e. place_read f e.0 e.1) (λ e. range_contains R ends.0 ends.1 e.0)
    (λ e outside. none_read f e.0 e.1 (λ x. other e.0 x (outside_other R vertex v ends all e.0 outside))) es

-- The derived order of the keys is another name of the definition's.
module _ (v : Vid) (types : List ℤ) where
  -- the out-halves of a vertex
  pub found_out_within : (S : EdgeId → EdgeId → Ordering) → S ≡ edge_cmp → (ends : Bound EdgeId × Bound EdgeId) → HoldsAllOf edge_cmp (λ e. e.src) v ends → (es : List (EdgeId × Option (List Val)))
      → filter_map (λ e. place_read (found_out v types) e.0 e.1) (entries_between S ends.0 ends.1 es) ≡ filter_map (λ e. place_read (found_out v types) e.0 e.1) es
  found_out_within S same ends all es =
      found_within S (λ e. e.src) v ends (subst (λ T. HoldsAllOf T (λ e. e.src) v ends) (sym same) all) (found_out v types)
      (λ k x other. ap (λ b. if b && list_any (λ t. int_eq t k.etype) types then Some (record { edge = Some k; inward = false; row = x }) else None) other) es

  -- the in-halves of a vertex
  pub found_in_within : (S : InKey → InKey → Ordering) → S ≡ in_cmp → (ends : Bound InKey × Bound InKey) → HoldsAllOf in_cmp (λ k. k.dst) v ends → (es : List (InKey × Option (List Val)))
      → filter_map (λ e. place_read (found_in v types) e.0 e.1) (entries_between S ends.0 ends.1 es) ≡ filter_map (λ e. place_read (found_in v types) e.0 e.1) es
  found_in_within S same ends all es =
      found_within S (λ k. k.dst) v ends (subst (λ T. HoldsAllOf T (λ k. k.dst) v ends) (sym same) all) (found_in v types)
      (λ k x other. ap (λ b. if b && list_any (λ t. int_eq t k.etype) types then Some (record { edge = Some (edge_of k); inward = true; row = x }) else None) other) es
