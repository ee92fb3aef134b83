-- A place that is taken out, with what stood in it.
use Rattle.std.proofs.Common.{◌≡◌, List, Option, None, Bool, true, false, cond, refl, ap, sym, ◌∙◌}
use Rattle.std.specs.declared.cmp.Ordering.{Ordering}
use Rattle.std.specs.BTreeMap.{is_at}
use Rattle.std.specs.Cmp.{eq_by_cmp_equiv}
use Rattle.std.specs.FinMap.{empty}
use Rattle.std.specs.Map.{lookup}
use Rattle.std.specs.Option.{unwrap_or}
use Rattle.maps.specs.Keys.{IsKeyOrder}
use Rattle.maps.specs.Lists.{with_all}
use Rattle.maps.specs.Maps.{with_at}
use Rattle.maps.proofs.Made.{get_placed}
use Rattle.maps.proofs.Updates.{same_by_keys, get-with_at}

none_through : {X : Type 0} (b : Bool) (x : Option (Option X)) → unwrap_or (cond b None x) None ≡ cond b None (unwrap_or x None)
none_through true x = refl
none_through false x = refl

pub wiped : {K X : Type 0} {R : K → K → Ordering} → IsKeyOrder R → (es fs : List (K × Option X)) (k : K)
    → ((q : K) → lookup (is_at (R q)) fs ≡ cond (is_at (R k) q) None (lookup (is_at (R q)) es))
    → with_all {R = R} empty fs ≡ with_at (with_all {R = R} empty es) k None
wiped {R = R} o es fs k h = same_by_keys o _ _ (λ q.
    get_placed o fs q ∙ ap (λ x. unwrap_or x None) (h q) ∙ none_through (is_at (R k) q) (lookup (is_at (R q)) es)
    ∙ ap (λ b. cond b None (unwrap_or (lookup (is_at (R q)) es) None)) ((eq_by_cmp_equiv o.total).symm k q)
    ∙ sym (get-with_at o (with_all {R = R} empty es) k None q ∙ ap (cond (is_at (R q) k) None) (get_placed o es q)))
