-- Finite maps at the key that changed, and at the others.
use Rattle.std.proofs.Common.{◌≡◌, ◌⊎◌, inl, inr, Option, Some, None, cond, true, false, refl, ap, sym, ◌∙◌}
use Rattle.std.specs.Prelude.{not}
use Rattle.std.specs.declared.cmp.Ordering.{Ordering}
use Rattle.std.specs.declared.cmp.Ordering.TheVariants.{Less, Equal, Greater}
use Rattle.std.specs.FinMap.{FinMap, get}
use Rattle.std.specs.Cmp.{IsTotalOrder}
use Rattle.std.specs.Ordering.{eq_by_cmp, is_eq}
use Rattle.std.specs.Option.{option_map, is_some}
use Rattle.std.proofs.lemmas.Cmp.{tied_itself}
use Rattle.std.proofs.lemmas.Map.Lookups.{CmpEqualImpliesEq}
use Rattle.first_graph.specs.Maps.{with_at, altered, altered_from}
use Rattle.first_graph.proofs.MapLemmas.{get-with_at}

by_answer : {K : Type 0} (R : K → K → Ordering) → CmpEqualImpliesEq R → (a b : K) (r : Ordering) → R a b ≡ r → IsTotalOrder R → (a ≡ b) ⊎ (eq_by_cmp R a b ≡ false)
by_answer R exact a b Less e o = inr (ap is_eq e)
by_answer R exact a b Equal e o = inl (exact a b e)
by_answer R exact a b Greater e o = inr (ap is_eq e)

-- two keys are the same, or are told apart
pub same_or_apart : {K : Type 0} {R : K → K → Ordering} (o : IsTotalOrder R) (exact : CmpEqualImpliesEq R) (a b : K) → (a ≡ b) ⊎ (eq_by_cmp R a b ≡ false)
same_or_apart {R = R} o exact a b = by_answer R exact a b (R a b) refl o

-- a key is not told apart from itself
pub not_apart : {K : Type 0} {R : K → K → Ordering} (o : IsTotalOrder R) (a b : K) → a ≡ b → eq_by_cmp R a b ≡ false → ⊥
not_apart {R = R} o a b same apart = let t : eq_by_cmp R a b ≡ true = ap (λ x. eq_by_cmp R a x) (sym same) ∙ ap is_eq (tied_itself o a) in cc

pub none_there : {X : Type 0} (o : Option X) → not (is_some o) ≡ true → o ≡ None
none_there None e = refl
none_there (Some x) e = cc

module _ {K X : Type 0} {R : K → K → Ordering} (o : IsTotalOrder R) where
  pub with_at_here : (m : FinMap R X) (k : K) (w : Option X) → get (with_at m k w) k ≡ w
  with_at_here m k w = get-with_at o m k w k ∙ ap (λ r. cond (is_eq r) w (get m k)) (tied_itself o k)

  pub with_at_apart : (m : FinMap R X) (k : K) (w : Option X) (q : K) → eq_by_cmp R q k ≡ false → get (with_at m k w) q ≡ get m q
  with_at_apart m k w q apart = get-with_at o m k w q ∙ ap (λ b. cond b w (get m q)) apart

  altered_from_here : (m : FinMap R X) (k : K) (f : X → X) (x : Option X) → get m k ≡ x → get (altered_from m k f x) k ≡ option_map f x
  altered_from_here m k f None e = e
  altered_from_here m k f (Some x) e = with_at_here m k (Some (f x))

  pub altered_here : (m : FinMap R X) (k : K) (f : X → X) → get (altered m k f) k ≡ option_map f (get m k)
  altered_here m k f = altered_from_here m k f (get m k) refl

  altered_from_apart : (m : FinMap R X) (k : K) (f : X → X) (x : Option X) (q : K) → eq_by_cmp R q k ≡ false → get (altered_from m k f x) q ≡ get m q
  altered_from_apart m k f None q apart = refl
  altered_from_apart m k f (Some x) q apart = with_at_apart m k (Some (f x)) q apart

  pub altered_apart : (m : FinMap R X) (k : K) (f : X → X) (q : K) → eq_by_cmp R q k ≡ false → get (altered m k f) q ≡ get m q
  altered_apart m k f q apart = altered_from_apart m k f (get m k) q apart
