-- What holds of each value of a map, behind each change of the map.
use Rattle.std.proofs.Common.{◌≡◌, inl, inr, List, [], ◌∷◌, Option, Some, None, Bool, true, false, cond, refl, ap, sym, subst, ◌∙◌}
use Rattle.std.specs.declared.cmp.Ordering.{Ordering}
use Rattle.std.specs.declared.cmp.Ordering.TheVariants.{Equal}
use Rattle.std.specs.FinMap.{FinMap, empty, get, insert, remove, retain_keys, from_entries, entries, get-empty, get-retain_keys, get-from_entries}
use Rattle.std.specs.List.{AllByRecursion}
use Rattle.std.specs.Ordering.{eq_by_cmp}
use Rattle.std.proofs.lemmas.Option.{same_Some, none-some}
use Rattle.maps.specs.Keys.{IsKeyOrder}
use Rattle.maps.specs.Maps.{with_at, altered, altered_from}
use Rattle.maps.specs.Lists.{at_key, put_all, with_all}
use Rattle.maps.proofs.Keys.{same_or_apart, same_is}
use Rattle.maps.proofs.Updates.{insert_here, insert_apart, remove_here, remove_apart}
use Rattle.maps.proofs.Found.{entries_got}
use Rattle.raft_core.proofs.Lists.{all_weaker}
use Rattle.replica_spelling.specs.Held.{AllHeld}

module _ {K X : Type 0} {R : K → K → Ordering} (o : IsKeyOrder R) (P : K → X → Type 0) where
  pub held_empty : AllHeld P (empty {X = X} {R = R})
  held_empty k x e = absurd (none-some x (sym (get-empty R k) ∙ e))

  pub held_insert : (m : FinMap R X) (k : K) (x : X) → AllHeld P m → P k x → AllHeld P (insert m k x)
  held_insert m k x all holds q y e = elim (same_or_apart o q k) [
    | inl same ↦ subst (λ z. P z y) (sym same) (subst (P k) (same_Some x y (sym (insert_here o m k x) ∙ ap (get (insert m k x)) (sym same) ∙ e)) holds)
    | inr apart ↦ all q y (sym (insert_apart o m k x q apart) ∙ e)
  ]

  pub held_remove : (m : FinMap R X) (k : K) → AllHeld P m → AllHeld P (remove m k)
  held_remove m k all q y e = elim (same_or_apart o q k) [
    | inl same ↦ absurd (none-some y (sym (remove_here o m k) ∙ ap (get (remove m k)) (sym same) ∙ e))
    | inr apart ↦ all q y (sym (remove_apart o m k q apart) ∙ e)
  ]

  held_with_at : (m : FinMap R X) (k : K) (w : Option X) → AllHeld P m → ((x : X) → w ≡ Some x → P k x) → AllHeld P (with_at m k w)
  held_with_at m k None all holds = held_remove m k all
  held_with_at m k (Some x) all holds = held_insert m k x all (holds x refl)

  pub held_with_all : (m : FinMap R X) (es : List (K × Option X)) → AllHeld P m → AllByRecursion (λ (e : K × Option X). (x : X) → e.1 ≡ Some x → P e.0 x) es → AllHeld P (with_all m es)
  held_with_all m [] all holds = all
  held_with_all m (e ∷ es) all holds = held_with_at (with_all m es) e.0 e.1 (held_with_all m es all holds.1) holds.0

  pub held_put_all : (m : FinMap R X) (es : List (K × X)) → AllHeld P m → AllByRecursion (λ (e : K × X). P e.0 e.1) es → AllHeld P (put_all m es)
  held_put_all m [] all holds = all
  held_put_all m (e ∷ es) all holds = held_insert (put_all m es) e.0 e.1 (held_put_all m es all holds.1) holds.0

  held_from : (m : FinMap R X) (k : K) (f : X → X) (w : Option X) → get m k ≡ w → AllHeld P m → ((x : X) → P k x → P k (f x)) → AllHeld P (altered_from m k f w)
  held_from m k f None e all holds = all
  held_from m k f (Some x) e all holds = held_insert m k (f x) all (holds x (all k x e))

  pub held_altered : (m : FinMap R X) (k : K) (f : X → X) → AllHeld P m → ((x : X) → P k x → P k (f x)) → AllHeld P (altered m k f)
  held_altered m k f all holds = held_from m k f (get m k) refl all holds

  alike : (p : K → Bool) (q x : K) → R q x ≡ Equal → p x ≡ p q
  alike p q x t = ap p (sym (o.exact q x t))

  pub held_retained : (m : FinMap R X) (p : K → Bool) → AllHeld P m → AllHeld P (retain_keys m p)
  held_retained m p all q y e = kept (p q) (sym (get-retain_keys m p q (alike p q)) ∙ e)
    where
      kept : (b : Bool) → cond b (get m q) None ≡ Some y → P q y
      kept true there = all q y there
      kept false none = absurd (none-some y none)

  -- so it holds of each entry, and of a map that is made of entries of which it holds
  pub each_held : (m : FinMap R X) → AllHeld P m → AllByRecursion (λ (e : K × X). P e.0 e.1) (entries m)
  each_held m all = all_weaker (λ (e : K × X). get m e.0 ≡ Some e.1) (λ (e : K × X). P e.0 e.1) (λ e got. all e.0 e.1 got) (entries m) (entries_got o m)

  found_held : (es : List (K × X)) → AllByRecursion (λ (e : K × X). P e.0 e.1) es → (q : K) (y : X) → at_key R q es ≡ Some y → P q y
  found_held [] all q y e = absurd (none-some y e)
  found_held (x ∷ es) all q y e = here (eq_by_cmp R q x.0) refl (found_held es all.1 q y) e
    where
      here : (b : Bool) → eq_by_cmp R q x.0 ≡ b → (at_key R q es ≡ Some y → P q y) → cond b (Some x.1) (at_key R q es) ≡ Some y → P q y
      here true same rest there = subst (λ z. P z y) (sym (same_is o q x.0 same)) (subst (P x.0) (same_Some x.1 y there) all.0)
      here false apart rest there = rest there

  pub held_made : (es : List (K × X)) → AllByRecursion (λ (e : K × X). P e.0 e.1) es → AllHeld P (from_entries {R = R} es)
  held_made es all q y e = found_held es all q y (sym (get-from_entries o.total es q) ∙ e)
