-- The first tag of a vertex, and the tags that stay where all of a vertex are taken away.
use Rattle.std.proofs.Common.{◌≡◌, inl, inr, ℤ, ◌<ℤ◌, ℕ, zero, suc, arith, List, [], ◌∷◌, Option, Some, None, cond, Bool, true, false, not, refl, ap, sym, subst, ◌∙◌}
use Rattle.std.specs.Prelude.{IfSome, IsSome, slice_get}
use Rattle.std.specs.declared.cmp.Ordering.{Ordering}
use Rattle.std.specs.declared.cmp.Ordering.TheVariants.{Less, Equal, Greater}
use Rattle.std.specs.declared.ops.Bound.TheVariants.{Included, Unbounded}
use Rattle.std.specs.Ordering.{int_eq, int_cmp, nat_cmp, is_gt, is_eq, ordering_then, MatchOrdering}
use Rattle.std.specs.Cmp.{int_cmp_is, int_ranks, nat_cmp_is, int_cmp_total}
use Rattle.std.specs.BTreeMap as tree
use Rattle.std.specs.BTreeMap.{BTreeMap}
use Rattle.std.specs.BTreeMap.Range.{IsRangeOf, IsEntryInRange, IsLeBy}
use Rattle.std.specs.BTreeMap.{is_at}
use Rattle.std.specs.Map.{lookup}
use Rattle.std.specs.FinMap.{FinMap, get, remove, retain_keys, from_entries, get-retain_keys, same_map}
use Rattle.std.proofs.lemmas.Map.Lookups.{exact_signed}
use Rattle.first_graph.specs.declared.tag_key.TagKey.{TagKey}
use Rattle.first_graph.specs.Keys.{tag_cmp}
use Rattle.first_graph.proofs.KeyLemmas.{tags_total, tags_exact}
use Rattle.first_graph.proofs.MapLemmas.{get_made}
use Rattle.first_graph.proofs.Updates.{same_or_apart, with_at_apart}

zero_le : (t : ℕ) → is_gt (nat_cmp 0 t) ≡ false
zero_le zero = ap is_gt (sym (nat_cmp_is 0 zero Equal refl))
zero_le (suc t) = ap is_gt (sym (nat_cmp_is 0 (suc t) Less (omega arith)))

same_vids : (a b : ℤ) → int_eq a b ≡ true → a ≡ b
same_vids a b e =
    elim (same_or_apart int_cmp_total exact_signed a b) [
      | inl same ↦ same
      | inr apart ↦ (let z : int_eq a b ≡ false = apart in cc)
    ]

-- the first key of a vertex is not after any other of the vertex
first_le : (v : ℤ) (q : TagKey) → v ≡ q.vid → IsLeBy tag_cmp (record { vid = v; tag = 0 }) q
first_le v q same = ap (λ o. is_gt (ordering_then o (nat_cmp 0 q.tag))) (sym (int_cmp_is v q.vid Equal same)) ∙ zero_le q.tag

-- a key that is not after another has no greater vertex
le_vids : (a b : TagKey) → IsLeBy tag_cmp a b → b.vid <ℤ a.vid → ⊥
le_vids a b h l = let after : is_gt (tag_cmp a b) ≡ true = ap (λ o. is_gt (ordering_then o (nat_cmp a.tag b.tag))) (sym (int_cmp_is a.vid b.vid Greater l)) in cc

by_rank : (a b : ℤ) (o : Ordering) → MatchOrdering o (a <ℤ b) (a ≡ b) (b <ℤ a) → (a <ℤ b → ⊥) → (b <ℤ a → ⊥) → a ≡ b
by_rank a b Less h l g = absurd (l h)
by_rank a b Equal h l g = h
by_rank a b Greater h l g = absurd (g h)

none_if : {X : Type 0} (o : Option X) → (IsSome o → ⊥) → o ≡ None
none_if None h = refl
none_if (Some x) h = absurd (h refl)

-- the keys from the first of a vertex on
module _ {X : Type 0} (m : BTreeMap TagKey X) (v : ℤ) (first : TagKey) (is : first ≡ record { vid = v; tag = 0 }) (r : List (TagKey × X)) (range : IsRangeOf tag_cmp (Included first) Unbounded m r) where
  in_range : (q : TagKey) → int_eq q.vid v ≡ true → IsLeBy tag_cmp first q
  in_range q e = subst (λ k. IsLeBy tag_cmp k q) (sym is) (first_le v q (sym (same_vids q.vid v e)))

  -- where there is none, the vertex has no tag
  pub none_found : r ≡ [] → (q : TagKey) → int_eq q.vid v ≡ true → tree.get tag_cmp m q ≡ None
  none_found empty q e = range.5 empty q (in_range q e, tt)

  pub first_found : (k : TagKey) (x : X) (rest : List (TagKey × X)) → r ≡ (k, x) ∷ rest → IsSome (tree.get tag_cmp m k)
  first_found k x rest e =
      let entry : IsEntryInRange tag_cmp (Included first) Unbounded m (k, x) = subst (λ l. IfSome (slice_get l 0) (IsEntryInRange tag_cmp (Included first) Unbounded m)) e range.1 in
      subst IsSome (sym entry.1) refl

  -- where the first of them is another vertex', the vertex has no tag
  pub other_found : (k : TagKey) (x : X) (rest : List (TagKey × X)) → r ≡ (k, x) ∷ rest → int_eq k.vid v ≡ false → (q : TagKey) → int_eq q.vid v ≡ true → tree.get tag_cmp m q ≡ None
  other_found k x rest e other q here =
      let entry : IsEntryInRange tag_cmp (Included first) Unbounded m (k, x) = subst (λ l. IfSome (slice_get l 0) (IsEntryInRange tag_cmp (Included first) Unbounded m)) e range.1 in
      let vids = same_vids q.vid v here in
      none_if (tree.get tag_cmp m q) (λ some.
      let least : IsLeBy tag_cmp k q = subst (λ l. IfSome (slice_get l 0) (λ f. IsLeBy tag_cmp f.0 q)) e (range.2 q (in_range q here, tt) some) in
      let low : IsLeBy tag_cmp (record { vid = v; tag = 0 }) k = subst (λ f. IsLeBy tag_cmp f k) is entry.0.0 in
      let same : k.vid ≡ v = by_rank k.vid v (int_cmp k.vid v) (int_ranks k.vid v) (λ l. le_vids (record { vid = v; tag = 0 }) k low l) (λ l. le_vids k q least (subst (λ w. w <ℤ k.vid) (sym vids) l)) in
      let one : int_eq k.vid v ≡ true = ap is_eq (sym (int_cmp_is k.vid v Equal same)) in
      cc)

-- whether a tag stays where a vertex goes
abbrev pub stays : ℤ → TagKey → Bool
stays v key = not (int_eq key.vid v)

abbrev Rows : Type 0 → Type 0
Rows X = FinMap tag_cmp X

get_staying : {X : Type 0} (m : Rows X) (v : ℤ) (q : TagKey) → get (retain_keys m (stays v)) q ≡ cond (stays v q) (get m q) None
get_staying m v q = get-retain_keys m (stays v) q (λ x t. ap (stays v) (sym (tags_exact q x t)))

lost : {X : Type 0} (b : Bool) (o p : Option X) → b ≡ false → cond b o None ≡ cond b p None
lost true o p e = cc
lost false o p e = refl

removed_at : {X : Type 0} (m : Rows X) (v : ℤ) (k : TagKey) → int_eq k.vid v ≡ true → (q : TagKey) → cond (stays v q) (get (remove m k) q) None ≡ cond (stays v q) (get m q) None
removed_at m v k here q =
    elim (same_or_apart tags_total tags_exact q k) [
      | inl same ↦ lost (stays v q) (get (remove m k) q) (get m q) (ap (λ x. not (int_eq x.vid v)) same ∙ ap not here)
      | inr apart ↦ ap (λ o. cond (stays v q) o None) (with_at_apart tags_total m k None q apart)
    ]

-- a tag of the vertex may be taken away before
pub removed_first : {X : Type 0} (m : Rows X) (v : ℤ) (k : TagKey) → int_eq k.vid v ≡ true → retain_keys (remove m k) (stays v) ≡ retain_keys m (stays v)
removed_first m v k here = same_map tags_total tags_exact _ _ (λ q. get_staying (remove m k) v q ∙ removed_at m v k here q ∙ sym (get_staying m v q))

kept_or_none : {X : Type 0} (b : Bool) (o : Option X) → (b ≡ true → o ≡ None) → cond (not b) o None ≡ o
kept_or_none true o h = sym (h refl)
kept_or_none false o h = refl

-- where the vertex has no tag, all stay
pub all_stay : {X : Type 0} (es : List (TagKey × X)) (v : ℤ) → ((q : TagKey) → int_eq q.vid v ≡ true → lookup (is_at (tag_cmp q)) es ≡ None) → retain_keys (from_entries {R = tag_cmp} es) (stays v) ≡ from_entries es
all_stay es v none = same_map tags_total tags_exact _ _ (λ q. get_staying (from_entries es) v q ∙ kept_or_none (int_eq q.vid v) (get (from_entries es) q) (λ e. get_made tags_total es q ∙ none q e))
