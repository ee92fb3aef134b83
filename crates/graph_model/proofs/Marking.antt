-- The first step that is marked at a vertex, and marks that grow more.
use Rattle.std.proofs.Common.{◌≡◌, ◌≤◌, ◌<◌, ◌+◌, ◌⊎◌, inl, inr, ℕ, zero, suc, arith, List, [], ◌∷◌, ◌++◌, map, length, Option, Some, None, cond, Bool, true, false, refl, ap, sym, subst, ◌∙◌}
use Rattle.std.specs.Prelude.{IfSome, IsSome, slice_get, is_some, ◌||◌, ⊤}
use Rattle.std.specs.declared.cmp.Ordering.TheVariants.{Less, Equal, Greater}
use Rattle.std.specs.declared.ops.Bound.TheVariants.{Included, Unbounded}
use Rattle.std.specs.Ordering.{nat_cmp, eq_by_cmp, ordering_reverse, is_gt, ordering_then}
use Rattle.std.specs.Cmp.{nat_cmp_is}
use Rattle.std.specs.BTreeMap as tree
use Rattle.std.specs.BTreeMap.{BTreeMap, is_at}
use Rattle.std.specs.BTreeMap.Range.{IsRangeOf, IsEntryInRange, IsLeBy}
use Rattle.std.specs.Map.{lookup}
use Rattle.std.specs.FinMap.{get, from_entries}
use Rattle.std.proofs.lemmas.Map.Keys.{le_from_not_gt}
use Rattle.maps.specs.Keys.{has_key}
use Rattle.maps.proofs.Keys.{same_is, same_itself, equal_of_is_eq}
use Rattle.maps.proofs.Updates.{get-with_at}
use Rattle.maps.proofs.Made.{get_made, made_by_order}
use Rattle.graph_model.specs.declared.vid.Vid.{Vid}
use Rattle.graph_model.specs.declared.edge_id.EdgeId.{EdgeId}
use Rattle.graph_model.specs.declared.half.Half.{Half}
use Rattle.graph_model.specs.declared.change.Change.{Change}
use Rattle.graph_model.specs.declared.mark.Mark.{Mark}
use Rattle.graph_model.specs.Keys.{vid_cmp, mark_cmp}
use Rattle.graph_model.specs.Marks.{has_mark, far_end, touched, AreMarked, Grows}
use Rattle.graph_model.specs.contracts.mark.MarkOrd.TheImpl as marks
use Rattle.graph_model.proofs.KeyLemmas.{vid_keys, mark_keys}
use Rattle.graph_model.proofs.Orders.{mark_order}
use Rattle.graph_model.proofs.TagLemmas.{by_order, none_if}

less_or_same : (a b : ℕ) → a ≤ b → (a < b) ⊎ (a ≡ b)
less_or_same zero zero h = inr refl
less_or_same zero (suc b) h = inl (omega arith)
less_or_same (suc a) zero h = absurd (omega arith)
less_or_same (suc a) (suc b) h = elim (less_or_same a b (omega arith)) [
  | inl less ↦ inl (omega (arith, less))
  | inr same ↦ inr (ap suc same)
]

le_nats : (a b : ℕ) → a ≤ b → is_gt (nat_cmp a b) ≡ false
le_nats a b h = elim (less_or_same a b h) [
  | inl less ↦ ap is_gt (sym (nat_cmp_is a b Less less))
  | inr same ↦ ap is_gt (sym (nat_cmp_is a b Equal same))
]

gt_nats : (a b : ℕ) → b < a → is_gt (nat_cmp a b) ≡ true
gt_nats a b h = ap is_gt (sym (nat_cmp_is a b Greater h))

-- at the same vertex marks are ordered by their steps
by_step : (a b : Mark) → eq_by_cmp vid_cmp a.vid b.vid ≡ true → is_gt (mark_cmp a b) ≡ is_gt (nat_cmp a.step b.step)
by_step a b same = ap (λ o. is_gt (ordering_then o (nat_cmp a.step b.step))) (equal_of_is_eq (vid_cmp a.vid b.vid) same)

-- a mark that is not after another has no greater vertex
le_vids : (a b : Mark) → IsLeBy mark_cmp a b → vid_cmp a.vid b.vid ≡ Greater → ⊥
le_vids a b h g = let after : is_gt (mark_cmp a b) ≡ true = ap (λ o. is_gt (ordering_then o (nat_cmp a.step b.step))) g in cc

pub not_there : {X : Type 0} (es : List (Mark × X)) (q : Mark) → lookup (is_at (mark_cmp q)) es ≡ None → is_some (get (from_entries {R = mark_cmp} es) q) ≡ false
not_there es q none = ap is_some (get_made mark_keys es q ∙ none)

pub is_there : {X : Type 0} (es : List (Mark × X)) (q : Mark) (x : X) → lookup (is_at (mark_cmp q)) es ≡ Some x → is_some (get (from_entries {R = mark_cmp} es) q) ≡ true
is_there es q x some = ap is_some (get_made mark_keys es q ∙ some)

-- the marks of a vertex from a step on
module _ {X : Type 0} (m : BTreeMap Mark X) (v : Vid) (from : ℕ) (first : Mark) (is : first ≡ record { vid = v; step = from }) (r : List (Mark × X)) (range : IsRangeOf mark_cmp (Included first) Unbounded m r) where
  in_range : (i : ℕ) → from ≤ i → IsLeBy mark_cmp first (record { vid = v; step = i })
  in_range i h = subst (λ k. IsLeBy mark_cmp k (record { vid = v; step = i })) (sym is) (by_step (record { vid = v; step = from }) (record { vid = v; step = i }) (same_itself vid_keys v) ∙ le_nats from i h)

  -- where there is none, no step from there on is marked
  pub none_found : r ≡ [] → (i : ℕ) → from ≤ i → tree.get mark_cmp m (record { vid = v; step = i }) ≡ None
  none_found empty i h = range.5 empty (record { vid = v; step = i }) (in_range i h, tt)

  module _ (k : Mark) (x : X) (rest : List (Mark × X)) (e : r ≡ (k, x) ∷ rest) where
    entry : IsEntryInRange mark_cmp (Included first) Unbounded m (k, x)
    entry = subst (λ l. IfSome (slice_get l 0) (IsEntryInRange mark_cmp (Included first) Unbounded m)) e range.1

    low : IsLeBy mark_cmp (record { vid = v; step = from }) k
    low = subst (λ f. IsLeBy mark_cmp f k) is entry.0.0

    least : (i : ℕ) → from ≤ i → IsSome (tree.get mark_cmp m (record { vid = v; step = i })) → IsLeBy mark_cmp k (record { vid = v; step = i })
    least i h some = subst (λ l. IfSome (slice_get l 0) (λ f. IsLeBy mark_cmp f.0 (record { vid = v; step = i }))) e (range.2 (record { vid = v; step = i }) (in_range i h, tt) some)

    -- where the first of them is another vertex', no step from there on is marked
    pub other_found : eq_by_cmp vid_cmp v k.vid ≡ false → (i : ℕ) → from ≤ i → tree.get mark_cmp m (record { vid = v; step = i }) ≡ None
    other_found other i h = none_if (tree.get mark_cmp m (record { vid = v; step = i })) (λ some.
        by_order (vid_cmp v k.vid) other
        (λ l. le_vids k (record { vid = v; step = i }) (least i h some) (vid_keys.total.antisymm k.vid v ∙ ap ordering_reverse l))
        (λ g. le_vids (record { vid = v; step = from }) k low g))

    module _ (here : eq_by_cmp vid_cmp v k.vid ≡ true) where
      pub found_from : from ≤ k.step
      found_from = le_from_not_gt from k.step (sym (by_step (record { vid = v; step = from }) k here) ∙ low)

      same_vid : v ≡ k.vid
      same_vid = same_is vid_keys v k.vid here

      pub found_there : tree.get mark_cmp m (record { vid = v; step = k.step }) ≡ Some x
      found_there = subst (λ w. tree.get mark_cmp m (record { vid = w; step = k.step }) ≡ Some x) (sym same_vid) entry.1

      -- the first of them is the first step that is marked
      pub none_before : (i : ℕ) → from ≤ i → i < k.step → tree.get mark_cmp m (record { vid = v; step = i }) ≡ None
      none_before i h below = none_if (tree.get mark_cmp m (record { vid = v; step = i })) (λ some.
          (let there = least i h some in
          let after : is_gt (mark_cmp k (record { vid = v; step = i })) ≡ true =
          by_step k (record { vid = v; step = i }) (subst (λ w. eq_by_cmp vid_cmp w v ≡ true) same_vid (same_itself vid_keys v)) ∙ gt_nats k.step i below in
          cc))

some_cond : {X : Type 0} (b : Bool) (w o : Option X) → is_some (cond b w o) ≡ cond b (is_some w) (is_some o)
some_cond true w o = refl
some_cond false w o = refl

-- one mark more
mark_added : (es fs : List (Mark × ⊤)) (k : Mark) (w : Option ⊤)
    → ((q : Mark) → lookup (is_at (marks.cmp-value.it q)) fs ≡ cond (is_at (marks.cmp-value.it k) q) w (lookup (is_at (marks.cmp-value.it q)) es))
    → (q : Mark) → is_some (get (from_entries {R = mark_cmp} fs) q) ≡ cond (eq_by_cmp mark_cmp q k) (is_some w) (is_some (get (from_entries {R = mark_cmp} es) q))
mark_added es fs k w h q =
    ap (λ m. is_some (get m q)) (made_by_order mark_keys marks.cmp-value.it mark_order es fs k w h) ∙ ap is_some (get-with_at mark_keys (from_entries es) k w q)
    ∙ some_cond (eq_by_cmp mark_cmp q k) w (get (from_entries es) q)

kept_true : (b o : Bool) → o ≡ true → cond b true o ≡ true
kept_true true o e = refl
kept_true false o e = e

abbrev pub Added : (es fs : List (Mark × ⊤)) (k : Mark) → ⊤ → Type 0
Added es fs k w = (q : Mark) → lookup (is_at (marks.cmp-value.it q)) fs ≡ cond (is_at (marks.cmp-value.it k) q) (Some w) (lookup (is_at (marks.cmp-value.it q)) es)

-- all that was marked is, and so is the mark
pub added_grows : (es fs : List (Mark × ⊤)) (k : Mark) (w : ⊤) → Added es fs k w → Grows es fs
added_grows es fs k w h v i there = mark_added es fs k (Some w) h (record { vid = v; step = i }) ∙ kept_true (eq_by_cmp mark_cmp (record { vid = v; step = i }) k) (has_mark es v i) there

pub added_here : (es fs : List (Mark × ⊤)) (k : Mark) (w : ⊤) → Added es fs k w → (v : Vid) (step : ℕ) → k ≡ record { vid = v; step = step } → has_mark fs v step ≡ true
added_here es fs k w h v step is =
    ap (λ q. is_some (get (from_entries {R = mark_cmp} fs) q)) (sym is) ∙ mark_added es fs k (Some w) h k
    ∙ ap (λ b. cond b true (is_some (get (from_entries {R = mark_cmp} es) k))) (same_itself mark_keys k)

pick : (a b o n : Bool) → ((a || b) || o) ≡ true → (a ≡ true → n ≡ true) → (o ≡ true → n ≡ true) → (b || n) ≡ true
pick a true o n h f g = refl
pick true false o n h f g = f refl
pick false false true n h f g = g refl
pick false false false n h f g = absurd cc

-- the end of one edge more is marked, and one less is left
pub mark_more : (inward : Bool) (left rest : List (EdgeId × Half)) (x : EdgeId × Half) (v : Vid) (es fs : List (Mark × ⊤)) (step : ℕ) → left ≡ x ∷ rest
    → (has_key vid_cmp v (map (λ x. far_end inward x.0) left) || has_mark es v step) ≡ true → Grows es fs → has_mark fs (far_end inward x.0) step ≡ true
    → (has_key vid_cmp v (map (λ x. far_end inward x.0) rest) || has_mark fs v step) ≡ true
mark_more inward left rest x v es fs step e before grows here =
    pick (eq_by_cmp vid_cmp v (far_end inward x.0)) (has_key vid_cmp v (map (λ x. far_end inward x.0) rest)) (has_mark es v step) (has_mark fs v step)
    (ap (λ l. has_key vid_cmp v (map (λ x. far_end inward x.0) l) || has_mark es v step) (sym e) ∙ before)
    (λ t. ap (λ w. has_mark fs w step) (same_is vid_keys v (far_end inward x.0) t) ∙ here)
    (λ t. grows v step t)

pub same_change : (x y : Change) → ◌≡◌ {A = Option Change} (Some x) (Some y) → x ≡ y
same_change x y e = cc

last_or_before : (xs : List Change) (x y : Change) (i : ℕ) → slice_get (xs ++ x ∷ []) i ≡ Some y → (slice_get xs i ≡ Some y) ⊎ ((i ≡ length xs) × (x ≡ y))
last_or_before [] x y zero e = inr (refl, same_change x y e)
last_or_before [] x y (suc i) e = absurd cc
last_or_before (z ∷ xs) x y zero e = inl e
last_or_before (z ∷ xs) x y (suc i) e = elim (last_or_before xs x y i e) [
  | inl before ↦ inl before
  | inr last ↦ inr (ap suc last.0, last.1)
]

-- with a change more, and its marks
pub marked_more : (xs ys zs : List Change) (x : Change) (es fs : List (Mark × ⊤)) (step : ℕ) → ys ≡ xs → zs ≡ ys ++ x ∷ [] → step ≡ length xs → AreMarked xs es → Grows es fs
    → ((v : Vid) → has_key vid_cmp v (touched x) ≡ true → has_mark fs v step ≡ true) → AreMarked zs fs
marked_more xs ys zs x es fs step same more at marked grows new i y e v t =
    elim (last_or_before xs x y i (ap (λ l. slice_get (l ++ x ∷ []) i) (sym same) ∙ ap (λ l. slice_get l i) (sym more) ∙ e)) [
      | inl before ↦ grows v i (marked i y before v t)
      | inr last ↦ ap (has_mark fs v) (last.0 ∙ sym at) ∙ new v (ap (λ z. has_key vid_cmp v (touched z)) last.1 ∙ t)
    ]

pub same_grows : (es : List (Mark × ⊤)) → Grows es es
same_grows es v i h = h

or_none : (b : Bool) → (b || false) ≡ true → b ≡ true
or_none true h = refl
or_none false h = h

-- where a change touches one vertex, its mark is all
pub marked_alone : (v : Vid) (fs : List (Mark × ⊤)) (step : ℕ) → has_mark fs v step ≡ true → (w : Vid) → has_key vid_cmp w (v ∷ []) ≡ true → has_mark fs w step ≡ true
marked_alone v fs step here w t = ap (λ u. has_mark fs u step) (same_is vid_keys w v (or_none _ t)) ∙ here
