-- Places in which nothing stands, taken out.
use Rattle.std.proofs.Common.{◌≡◌, inl, inr, List, Option, None, Bool, true, false, cond, refl, ap, sym, subst, ◌∙◌}
use Rattle.std.specs.declared.cmp.Ordering.{Ordering}
use Rattle.std.specs.BTreeMap.{is_at}
use Rattle.std.specs.FinMap.{empty}
use Rattle.std.specs.Map.{lookup}
use Rattle.std.specs.Option.{unwrap_or}
use Rattle.maps.specs.Keys.{IsKeyOrder}
use Rattle.maps.specs.Lists.{with_all}
use Rattle.maps.proofs.Keys.{same_or_apart}
use Rattle.maps.proofs.Made.{get_placed}
use Rattle.maps.proofs.Updates.{same_by_keys}

-- what is read of no place is what is read of an empty one
none_read : {X : Type 0} (b : Bool) (w : Option (Option X)) → unwrap_or w None ≡ None → unwrap_or (cond b None w) None ≡ unwrap_or w None
none_read true w e = sym e
none_read false w e = refl

-- a place in which nothing stands makes no difference
pub dropped : {K X : Type 0} {R : K → K → Ordering} → IsKeyOrder R → (es fs : List (K × Option X)) (k : K) → unwrap_or (lookup (is_at (R k)) es) None ≡ None
    → ((q : K) → lookup (is_at (R q)) fs ≡ cond (is_at (R k) q) None (lookup (is_at (R q)) es))
    → with_all {R = R} empty fs ≡ with_all empty es
dropped {R = R} o es fs k none h = same_by_keys o _ _ (λ q.
    get_placed o fs q ∙ ap (λ x. unwrap_or x None) (h q)
    ∙ elim (same_or_apart o k q) as (λ _. unwrap_or (cond (is_at (R k) q) None (lookup (is_at (R q)) es)) None ≡ unwrap_or (lookup (is_at (R q)) es) None) [
      | inl tied ↦ none_read (is_at (R k) q) (lookup (is_at (R q)) es) (subst (λ x. unwrap_or (lookup (is_at (R x)) es) None ≡ None) tied none)
      | inr apart ↦ ap (λ b. unwrap_or (cond b None (lookup (is_at (R q)) es)) None) apart
    ]
    ∙ sym (get_placed o es q))
