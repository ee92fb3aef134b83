-- The first tag of a vertex, and the tags that stay where all of a vertex are taken away.
use Rattle.std.proofs.Common.{◌≡◌, inl, inr, ℕ, zero, suc, arith, List, [], ◌∷◌, Option, Some, None, cond, Bool, true, false, not, refl, ap, sym, subst, ◌∙◌}
use Rattle.std.specs.Prelude.{IfSome, IsSome, slice_get}
use Rattle.std.specs.declared.cmp.Ordering.{Ordering}
use Rattle.std.specs.declared.cmp.Ordering.TheVariants.{Less, Equal, Greater}
use Rattle.std.specs.declared.ops.Bound.TheVariants.{Included, Unbounded}
use Rattle.std.specs.Ordering.{nat_cmp, eq_by_cmp, ordering_reverse, is_gt, is_eq, ordering_then}
use Rattle.std.specs.Cmp.{nat_cmp_is}
use Rattle.std.specs.BTreeMap as tree
use Rattle.std.specs.BTreeMap.{BTreeMap}
use Rattle.std.specs.BTreeMap.Range.{IsRangeOf, IsEntryInRange, IsLeBy}
use Rattle.std.specs.BTreeMap.{is_at}
use Rattle.std.specs.Map.{lookup}
use Rattle.std.specs.FinMap.{FinMap, get, remove, retain_keys, from_entries, get-retain_keys}
use Rattle.maps.proofs.Keys.{same_is, same_or_apart, equal_of_is_eq}
use Rattle.maps.proofs.Updates.{same_by_keys, remove_apart}
use Rattle.maps.proofs.Made.{get_made}
use Rattle.graph_model.specs.declared.vid.Vid.{Vid}
use Rattle.graph_model.specs.declared.tag_key.TagKey.{TagKey}
use Rattle.graph_model.specs.Keys.{vid_cmp, tag_cmp}
use Rattle.graph_model.proofs.KeyLemmas.{vid_keys, tag_keys}

-- whether it is a tag of the vertex
abbrev pub is_of : Vid → TagKey → Bool
is_of v q = eq_by_cmp vid_cmp v q.vid

zero_le : (t : ℕ) → is_gt (nat_cmp 0 t) ≡ false
zero_le zero = ap is_gt (sym (nat_cmp_is 0 zero Equal refl))
zero_le (suc t) = ap is_gt (sym (nat_cmp_is 0 (suc t) Less (omega arith)))

-- the first key of a vertex is not after any other of the vertex
first_le : (v : Vid) (q : TagKey) → is_of v q ≡ true → IsLeBy tag_cmp (record { vid = v; tag = 0 }) q
first_le v q here = ap (λ o. is_gt (ordering_then o (nat_cmp 0 q.tag))) (equal_of_is_eq (vid_cmp v q.vid) here) ∙ zero_le q.tag

-- a key that is not after another has no greater vertex
le_vids : (a b : TagKey) → IsLeBy tag_cmp a b → vid_cmp a.vid b.vid ≡ Greater → ⊥
le_vids a b h g = let after : is_gt (tag_cmp a b) ≡ true = ap (λ o. is_gt (ordering_then o (nat_cmp a.tag b.tag))) g in cc

pub by_order : (o : Ordering) → is_eq o ≡ false → (o ≡ Less → ⊥) → (o ≡ Greater → ⊥) → ⊥
by_order Less e l g = l refl
by_order Equal e l g = cc
by_order Greater e l g = g refl

pub none_if : {X : Type 0} (o : Option X) → (IsSome o → ⊥) → o ≡ None
none_if None h = refl
none_if (Some x) h = absurd (h refl)

-- the keys from the first of a vertex on
module _ {X : Type 0} (m : BTreeMap TagKey X) (v : Vid) (first : TagKey) (is : first ≡ record { vid = v; tag = 0 }) (r : List (TagKey × X)) (range : IsRangeOf tag_cmp (Included first) Unbounded m r) where
  in_range : (q : TagKey) → is_of v q ≡ true → IsLeBy tag_cmp first q
  in_range q here = subst (λ k. IsLeBy tag_cmp k q) (sym is) (first_le v q here)

  -- where there is none, the vertex has no tag
  pub none_found : r ≡ [] → (q : TagKey) → is_of v q ≡ true → tree.get tag_cmp m q ≡ None
  none_found empty q here = range.5 empty q (in_range q here, tt)

  pub first_found : (k : TagKey) (x : X) (rest : List (TagKey × X)) → r ≡ (k, x) ∷ rest → IsSome (tree.get tag_cmp m k)
  first_found k x rest e =
      let entry : IsEntryInRange tag_cmp (Included first) Unbounded m (k, x) = subst (λ l. IfSome (slice_get l 0) (IsEntryInRange tag_cmp (Included first) Unbounded m)) e range.1 in
      subst IsSome (sym entry.1) refl

  -- where the first of them is another vertex', the vertex has no tag
  pub other_found : (k : TagKey) (x : X) (rest : List (TagKey × X)) → r ≡ (k, x) ∷ rest → is_of v k ≡ false → (q : TagKey) → is_of v q ≡ true → tree.get tag_cmp m q ≡ None
  other_found k x rest e other q here =
      let entry : IsEntryInRange tag_cmp (Included first) Unbounded m (k, x) = subst (λ l. IfSome (slice_get l 0) (IsEntryInRange tag_cmp (Included first) Unbounded m)) e range.1 in
      let same = same_is vid_keys v q.vid here in
      none_if (tree.get tag_cmp m q) (λ some.
      let least : IsLeBy tag_cmp k q = subst (λ l. IfSome (slice_get l 0) (λ f. IsLeBy tag_cmp f.0 q)) e (range.2 q (in_range q here, tt) some) in
      let low : IsLeBy tag_cmp (record { vid = v; tag = 0 }) k = subst (λ f. IsLeBy tag_cmp f k) is entry.0.0 in
      by_order (vid_cmp v k.vid) other
      (λ l. le_vids k q least (subst (λ w. vid_cmp k.vid w ≡ Greater) same (vid_keys.total.antisymm k.vid v ∙ ap ordering_reverse l)))
      (λ g. le_vids (record { vid = v; tag = 0 }) k low g))

-- whether a tag stays where a vertex goes
abbrev pub stays : Vid → TagKey → Bool
stays v key = not (is_of v key)

abbrev Rows : Type 0 → Type 0
Rows X = FinMap tag_cmp X

pub get_staying : {X : Type 0} (m : Rows X) (v : Vid) (q : TagKey) → get (retain_keys m (stays v)) q ≡ cond (stays v q) (get m q) None
get_staying m v q = get-retain_keys m (stays v) q (λ x t. ap (stays v) (sym (tag_keys.exact q x t)))

lost : {X : Type 0} (b : Bool) (o p : Option X) → b ≡ false → cond b o None ≡ cond b p None
lost true o p e = cc
lost false o p e = refl

removed_at : {X : Type 0} (m : Rows X) (v : Vid) (k : TagKey) → is_of v k ≡ true → (q : TagKey) → cond (stays v q) (get (remove m k) q) None ≡ cond (stays v q) (get m q) None
removed_at m v k here q =
    elim (same_or_apart tag_keys q k) [
      | inl same ↦ lost (stays v q) (get (remove m k) q) (get m q) (ap (λ x. not (is_of v x)) same ∙ ap not here)
      | inr apart ↦ ap (λ o. cond (stays v q) o None) (remove_apart tag_keys m k q apart)
    ]

-- a tag of the vertex may be taken away before
pub removed_first : {X : Type 0} (m : Rows X) (v : Vid) (k : TagKey) → is_of v k ≡ true → retain_keys (remove m k) (stays v) ≡ retain_keys m (stays v)
removed_first m v k here = same_by_keys tag_keys _ _ (λ q. get_staying (remove m k) v q ∙ removed_at m v k here q ∙ sym (get_staying m v q))

kept_or_none : {X : Type 0} (b : Bool) (o : Option X) → (b ≡ true → o ≡ None) → cond (not b) o None ≡ o
kept_or_none true o h = sym (h refl)
kept_or_none false o h = refl

-- where the vertex has no tag, all stay
pub all_stay : {X : Type 0} (es : List (TagKey × X)) (v : Vid) → ((q : TagKey) → is_of v q ≡ true → lookup (is_at (tag_cmp q)) es ≡ None) → retain_keys (from_entries {R = tag_cmp} es) (stays v) ≡ from_entries es
all_stay es v none = same_by_keys tag_keys _ _ (λ q. get_staying (from_entries es) v q ∙ kept_or_none (is_of v q) (get (from_entries es) q) (λ e. get_made tag_keys es q ∙ none q e))
