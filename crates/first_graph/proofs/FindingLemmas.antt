-- What is found in a part of the entries, where nothing is found outside of it.
use Rattle.std.proofs.Common.{◌≡◌, inl, inr, ℤ, List, [], ◌∷◌, Option, Some, None, cond, Bool, true, false, filter, refl, ap, sym, ◌∙◌}
use Rattle.std.specs.Prelude.{◌&&◌, if◌then◌else◌}
use Rattle.std.specs.List.{filter_map, cons_option, list_any}
use Rattle.std.specs.declared.cmp.Ordering.{Ordering}
use Rattle.std.specs.declared.ops.Bound.{Bound}
use Rattle.std.specs.Ordering.{int_eq}
use Rattle.std.specs.Cmp.{int_cmp_total}
use Rattle.std.specs.BTreeMap.Range.{range_contains, entries_between}
use Rattle.std.proofs.lemmas.Map.Lookups.{exact_signed}
use Rattle.first_graph.specs.declared.val.Val.{Val}
use Rattle.first_graph.specs.declared.edge_id.EdgeId.{EdgeId}
use Rattle.first_graph.specs.declared.in_key.InKey.{InKey}
use Rattle.first_graph.specs.Keys.{edge_cmp, in_cmp, edge_of}
use Rattle.first_graph.specs.Views.{found_out, found_in}
use Rattle.first_graph.specs.Ranges.{HoldsAllOf}
use Rattle.first_graph.proofs.Updates.{same_or_apart}

-- what is found of an element goes before what is found of the rest
one_within : {X Y : Type 0} (f : X → Option Y) (x : X) (part xs : List X) (b : Bool) → (b ≡ false → f x ≡ None) → filter_map f part ≡ filter_map f xs → filter_map f (cond b (x ∷ part) part) ≡ filter_map f (x ∷ xs)
one_within f x part xs true outside more = ap (cons_option (f x)) more
one_within f x part xs false outside more = more ∙ ap (λ o. cons_option o (filter_map f xs)) (sym (outside refl))

-- a filter that loses nothing of what f finds
pub filter_map_within : {X Y : Type 0} (f : X → Option Y) (p : X → Bool) → ((x : X) → p x ≡ false → f x ≡ None) → (xs : List X) → filter_map f (filter p xs) ≡ filter_map f xs
filter_map_within f p outside [] = refl
filter_map_within f p outside (x ∷ xs) = one_within f x (filter p xs) xs (p x) (outside x) (filter_map_within f p outside xs)

-- a key outside of a vertex' range has another vertex
outside_other : {K : Type 0} (R : K → K → Ordering) (vertex : K → ℤ) (v : ℤ) (ends : Bound K × Bound K) → HoldsAllOf R vertex v ends → (k : K) → range_contains R ends.0 ends.1 k ≡ false → int_eq (vertex k) v ≡ false
outside_other R vertex v ends all k outside =
    elim (same_or_apart int_cmp_total exact_signed (vertex k) v) [
      | inl same ↦ (let inside = all k same in cc)
      | inr apart ↦ apart
    ]

-- what f finds of one vertex is found in the vertex' range
pub found_within : {K X Y : Type 0} (R : K → K → Ordering) (vertex : K → ℤ) (v : ℤ) (ends : Bound K × Bound K) → HoldsAllOf R vertex v ends
    → (f : K × X → Option Y) → ((e : K × X) → int_eq (vertex e.0) v ≡ false → f e ≡ None) → (es : List (K × X))
    → filter_map f (entries_between R ends.0 ends.1 es) ≡ filter_map f es
found_within R vertex v ends all f other es = filter_map_within f (λ e. range_contains R ends.0 ends.1 e.0) (λ e outside. other e (outside_other R vertex v ends all e.0 outside)) es

-- the out-halves of a vertex
pub found_out_within : (v : ℤ) (types : List ℤ) (ends : Bound EdgeId × Bound EdgeId) → HoldsAllOf edge_cmp (λ e. e.src) v ends → (es : List (EdgeId × List Val))
    → filter_map (found_out v types) (entries_between edge_cmp ends.0 ends.1 es) ≡ filter_map (found_out v types) es
found_out_within v types ends all es =
    found_within edge_cmp (λ e. e.src) v ends all (found_out v types)
    (λ e other. ap (λ b. if b && list_any (λ t. int_eq t e.0.etype) types then Some (record { edge = Some e.0; inward = false; row = e.1 }) else None) other) es

-- the in-halves of a vertex
pub found_in_within : (v : ℤ) (types : List ℤ) (ends : Bound InKey × Bound InKey) → HoldsAllOf in_cmp (λ k. k.dst) v ends → (es : List (InKey × List Val))
    → filter_map (found_in v types) (entries_between in_cmp ends.0 ends.1 es) ≡ filter_map (found_in v types) es
found_in_within v types ends all es =
    found_within in_cmp (λ k. k.dst) v ends all (found_in v types)
    (λ e other. ap (λ b. if b && list_any (λ t. int_eq t e.0.etype) types then Some (record { edge = Some (edge_of e.0); inward = true; row = e.1 }) else None) other) es
