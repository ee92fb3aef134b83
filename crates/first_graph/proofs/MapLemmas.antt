-- A `BTreeMap`'s entries as a finite map.
use Rattle.std.proofs.Common.{◌≡◌, length, arith, List, [], ◌∷◌, Option, Some, None, cond, Bool, true, filter, refl, ap, sym, ◌∙◌}
use Rattle.std.specs.declared.cmp.Ordering.{Ordering}
use Rattle.std.specs.declared.cmp.Ordering.TheVariants.{Less, Equal, Greater}
use Rattle.std.specs.Map.{lookup}
use Rattle.std.proofs.lemmas.Map.Entries.{lookup-filter-keys}
use Rattle.std.specs.BTreeMap.{is_at}
use Rattle.std.specs.FinMap.{FinMap, entries, empty, len-empty, len-entries, entries-insert, find, get, from_entries, get-from_entries, get-insert, get-remove, retain_keys, get-retain_keys, same_map}
use Rattle.std.specs.Cmp.{IsTotalOrder, eq_by_cmp_equiv}
use Rattle.std.specs.Ordering.{eq_by_cmp, is_eq}
use Rattle.std.specs.FinMap.Entries.{put, by_order}
use Rattle.std.specs.List.{AllByRecursion}
use Rattle.std.specs.List.Sorted.{IsStrictlySortedBy}
use Rattle.std.specs.Map.{keys_of}
use Rattle.std.proofs.lemmas.Map.Keys.{sorted_head, sorted_tail}
use Rattle.std.proofs.lemmas.Map.Lookups.{CmpEqualImpliesEq}
use Rattle.first_graph.specs.Maps.{with_at, altered, altered_from}

equal_of_is_eq : (o : Ordering) → is_eq o ≡ true → o ≡ Equal
equal_of_is_eq Less h = cc
equal_of_is_eq Equal h = refl
equal_of_is_eq Greater h = cc

find-lookup : {K X : Type 0} (R : K → K → Ordering) (es : List (K × X)) (q : K) → find R q es ≡ lookup (is_at (R q)) es
find-lookup R [] q = refl
find-lookup R (e ∷ es) q = ap (cond (is_at (R q) e.0) (Some e.1)) (find-lookup R es q)

module _ {K X : Type 0} {R : K → K → Ordering} where
  -- what the map that the entries make has at a key
  pub get_made : IsTotalOrder R → (es : List (K × X)) (q : K) → get (from_entries {R = R} es) q ≡ lookup (is_at (R q)) es
  get_made o es q = get-from_entries o es q ∙ find-lookup R es q

  pub get-with_at : IsTotalOrder R → (m : FinMap R X) (k : K) (w : Option X) (q : K) → get (with_at m k w) q ≡ cond (eq_by_cmp R q k) w (get m q)
  get-with_at o m k None q = get-remove o m k q
  get-with_at o m k (Some v) q = get-insert o m k v q

  -- entries that differ at one key make maps that differ there
  pub made : IsTotalOrder R → CmpEqualImpliesEq R → (es fs : List (K × X)) (k : K) (w : Option X)
      → ((q : K) → lookup (is_at (R q)) fs ≡ cond (is_at (R k) q) w (lookup (is_at (R q)) es))
      → from_entries {R = R} fs ≡ with_at (from_entries es) k w
  made o exact es fs k w h = same_map o exact _ _ (λ q.
      get_made o fs q ∙ h q ∙ ap (λ b. cond b w (lookup (is_at (R q)) es)) ((eq_by_cmp_equiv o).symm k q)
      ∙ sym (get-with_at o (from_entries es) k w q ∙ ap (cond (is_at (R q) k) w) (get_made o es q)))

  get_filtered : IsTotalOrder R → (p : K → Bool) → (es : List (K × X)) (q : K) → ((x : K) → R q x ≡ Equal → p x ≡ p q) → lookup (is_at (R q)) (filter (λ e. p e.0) es) ≡ cond (p q) (lookup (is_at (R q)) es) None
  get_filtered o p es q alike = lookup-filter-keys (is_at (R q)) p (p q) (λ x t. alike x (equal_of_is_eq (R q x) t)) es

  -- entries filtered by their keys make the map with those keys
  pub made_filtered : IsTotalOrder R → CmpEqualImpliesEq R → (p : K → Bool) → (es : List (K × X)) → from_entries {R = R} (filter (λ e. p e.0) es) ≡ retain_keys (from_entries es) p
  made_filtered o exact p es =
      let alike = λ (q x : K) (t : R q x ≡ Equal). ap p (sym (exact q x t)) in
      same_map o exact _ _ (λ q. get_made o _ q ∙ get_filtered o p es q (alike q) ∙ sym (get-retain_keys (from_entries es) p q (alike q) ∙ ap (λ r. cond (p q) r None) (get_made o es q)))

nothing_in : {A : Type 0} (es : List A) → length es ≡ 0 → es ≡ []
nothing_in [] h = refl
nothing_in (e ∷ es) h = absurd (omega arith)

put_first : {K X : Type 0} (R : K → K → Ordering) (e : K × X) (es : List (K × X)) → AllByRecursion (λ y. R e.0 y ≡ Less) (keys_of es) → put R e.0 e.1 es ≡ e ∷ es
put_first R e [] h = refl
put_first R e (f ∷ es) h = ap (λ r. by_order r (e ∷ f ∷ es) ((f.0, e.1) ∷ es) (f ∷ put R e.0 e.1 es)) h.0

-- entries in order are those of the map that they make
pub entries_made : {K X : Type 0} {R : K → K → Ordering} → IsTotalOrder R → (es : List (K × X)) → IsStrictlySortedBy R (keys_of es) → entries (from_entries {R = R} es) ≡ es
entries_made {X = X} {R = R} o [] s = nothing_in _ (sym (len-entries empty) ∙ len-empty R X)
entries_made {R = R} o (e ∷ es) s =
    entries-insert o (from_entries es) e.0 e.1 ∙ ap (put R e.0 e.1) (entries_made o es (sorted_tail R e.0 _ s)) ∙ put_first R e es (sorted_head R e.0 _ s)

module _ {K X : Type 0} {R : K → K → Ordering} where
  -- where there is nothing at a key, nothing is altered
  pub altered_none : IsTotalOrder R → (es : List (K × X)) (k : K) (f : X → X) → lookup (is_at (R k)) es ≡ None → from_entries {R = R} es ≡ altered (from_entries es) k f
  altered_none o es k f none = ap (altered_from (from_entries es) k f) (sym (get_made o es k ∙ none))

  -- a value written back alters the map
  pub altered_some : IsTotalOrder R → CmpEqualImpliesEq R → (es fs : List (K × X)) (k : K) (f : X → X) (x : X) → lookup (is_at (R k)) es ≡ Some x
      → ((q : K) → lookup (is_at (R q)) fs ≡ cond (is_at (R k) q) (Some (f x)) (lookup (is_at (R q)) es))
      → from_entries {R = R} fs ≡ altered (from_entries es) k f
  altered_some o exact es fs k f x found h = made o exact es fs k (Some (f x)) h ∙ ap (altered_from (from_entries es) k f) (sym (get_made o es k ∙ found))
