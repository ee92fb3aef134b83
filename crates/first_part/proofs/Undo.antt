-- A value that was put at a free key and taken away again.
use Rattle.std.proofs.Common.{◌≡◌, inl, inr, Some, None, ap, sym, ◌∙◌}
use Rattle.std.specs.FinMap.{FinMap, get, insert, remove, same_map}
use Rattle.std.specs.Cmp.{IsTotalOrder}
use Rattle.std.specs.declared.cmp.Ordering.{Ordering}
use Rattle.std.proofs.lemmas.Map.Lookups.{CmpEqualImpliesEq}
use Rattle.first_graph.proofs.Updates.{same_or_apart, with_at_here, with_at_apart}

module _ {K X : Type 0} {R : K → K → Ordering} (o : IsTotalOrder R) (exact : CmpEqualImpliesEq R) where
  pub remove-insert : (m : FinMap R X) (k : K) (v : X) → get m k ≡ None → remove (insert m k v) k ≡ m
  remove-insert m k v free = same_map o exact _ _ (λ q.
      elim (same_or_apart o exact q k) [
        | inl same ↦ ap (get (remove (insert m k v) k)) same ∙ with_at_here o (insert m k v) k None ∙ sym free ∙ ap (get m) (sym same)
        | inr apart ↦ with_at_apart o (insert m k v) k None q apart ∙ with_at_apart o m k (Some v) q apart
      ])
