-- Places at the key that changed, and at the others.
use Rattle.std.proofs.Common.{◌≡◌, inl, inr, ℕ, List, [], ◌∷◌, Option, Some, None, Bool, true, false, cond, is_some, refl, ap, sym, subst, ◌∙◌}
use Rattle.std.specs.declared.cmp.Ordering.{Ordering}
use Rattle.std.specs.declared.cmp.Ordering.TheVariants.{Less, Equal, Greater}
use Rattle.std.specs.Ordering.{is_eq, match_ordering}
use Rattle.std.specs.BTreeMap.{is_at, insert_entry}
use Rattle.std.specs.Map.{set_value}
use Rattle.std.specs.FinMap.{get, get-empty, get-insert, get-remove, same_map}
use Rattle.byte_fields.specs.Order.{bytes_cmp}
use Rattle.kv_part.specs.Store.{Contents}
use Rattle.kv_part.specs.Places.{with_at, stored, place_at, is_placed}
use Rattle.kv_part.proofs.Orders.{total, exact, itself, same_or_apart, same}

-- the value that a place holds, where there is one and it holds one
abbrev pub value_in : Option (Option (List ℕ)) → Option (List ℕ)
value_in None = None
value_in (Some value) = value

-- what a map has after a place was set: at that key what was set
pub get-with_at : (m : Contents) (key : List ℕ) (w : Option (List ℕ)) (q : List ℕ) → get (with_at m key w) q ≡ cond (is_eq (bytes_cmp q key)) w (get m q)
get-with_at m key None q = get-remove total m key q
get-with_at m key (Some v) q = get-insert total m key v q

value_of_place : (b : Bool) (w : Option (List ℕ)) (rest : Option (Option (List ℕ))) → cond b w (value_in rest) ≡ value_in (cond b (Some w) rest)
value_of_place true w rest = refl
value_of_place false w rest = refl

none_of : (o : Option (Option (List ℕ))) → is_some o ≡ false → o ≡ None
none_of None e = refl
none_of (Some x) e = absurd cc

module _ {K : Type 0} (bytes : K → List ℕ) where
  abbrev pub Entries : Type 0
  Entries = List (K × Option (List ℕ))

  abbrev pub cmp : K → K → Ordering
  cmp x y = bytes_cmp (bytes x) (bytes y)

  -- ---- after an insert

  here_by : (e : K × Option (List ℕ)) (es : Entries) (k : K) (v : Option (List ℕ)) (r : Ordering) → bytes_cmp (bytes k) (bytes e.0) ≡ r
      → place_at bytes (insert_entry cmp es k v) (bytes k) ≡ Some v
      → place_at bytes (match_ordering r ((k, v) ∷ e ∷ es) ((e.0, v) ∷ es) (e ∷ insert_entry cmp es k v)) (bytes k) ≡ Some v
  here_by e es k v Less is more = rw (itself (bytes k)) refl
  here_by e es k v Equal is more = rw is refl
  here_by e es k v Greater is more = rw is more

  pub insert_here : (es : Entries) (k : K) (v : Option (List ℕ)) → place_at bytes (insert_entry cmp es k v) (bytes k) ≡ Some v
  insert_here [] k v = rw (itself (bytes k)) refl
  insert_here (e ∷ es) k v = here_by e es k v (bytes_cmp (bytes k) (bytes e.0)) refl (insert_here es k v)

  apart_by : (e : K × Option (List ℕ)) (es : Entries) (k : K) (v : Option (List ℕ)) (q : List ℕ) (r : Ordering) → bytes_cmp (bytes k) (bytes e.0) ≡ r → is_eq (bytes_cmp q (bytes k)) ≡ false
      → place_at bytes (insert_entry cmp es k v) q ≡ place_at bytes es q
      → place_at bytes (match_ordering r ((k, v) ∷ e ∷ es) ((e.0, v) ∷ es) (e ∷ insert_entry cmp es k v)) q ≡ place_at bytes (e ∷ es) q
  apart_by e es k v q Less is apart more = rw apart refl
  apart_by e es k v q Equal is apart more =
      let also : is_eq (bytes_cmp q (bytes e.0)) ≡ false = subst (λ (x : List ℕ). is_eq (bytes_cmp q x) ≡ false) (exact (bytes k) (bytes e.0) is) apart in
      rw also refl
  apart_by e es k v q Greater is apart more = ap (cond (is_eq (bytes_cmp q (bytes e.0))) (Some e.1)) more

  pub insert_apart : (es : Entries) (k : K) (v : Option (List ℕ)) (q : List ℕ) → is_eq (bytes_cmp q (bytes k)) ≡ false → place_at bytes (insert_entry cmp es k v) q ≡ place_at bytes es q
  insert_apart [] k v q apart = rw apart refl
  insert_apart (e ∷ es) k v q apart = apart_by e es k v q (bytes_cmp (bytes k) (bytes e.0)) refl apart (insert_apart es k v q apart)

  -- ---- after a write to a place

  abbrev at : List ℕ → K → Bool
  at key k = is_at (λ x. bytes_cmp key (bytes x)) k

  set_here_by : (e : K × Option (List ℕ)) (es : Entries) (key : List ℕ) (w : Option (List ℕ)) (b : Bool) → is_eq (bytes_cmp key (bytes e.0)) ≡ b
      → (is_placed bytes es key ≡ true → place_at bytes (set_value (at key) es w) key ≡ Some w) → is_placed bytes (e ∷ es) key ≡ true
      → place_at bytes (cond b ((e.0, w) ∷ es) (e ∷ set_value (at key) es w)) key ≡ Some w
  set_here_by e es key w true is more placed = rw is refl
  set_here_by e es key w false is more placed = rw is (more (rw is at placed))

  pub set_here : (es : Entries) (key : List ℕ) (w : Option (List ℕ)) → is_placed bytes es key ≡ true → place_at bytes (set_value (at key) es w) key ≡ Some w
  set_here [] key w placed = absurd cc
  set_here (e ∷ es) key w placed = set_here_by e es key w (is_eq (bytes_cmp key (bytes e.0))) refl (set_here es key w) placed

  set_apart_by : (e : K × Option (List ℕ)) (es : Entries) (key : List ℕ) (w : Option (List ℕ)) (q : List ℕ) (b : Bool) → is_eq (bytes_cmp key (bytes e.0)) ≡ b → is_eq (bytes_cmp q key) ≡ false
      → place_at bytes (set_value (at key) es w) q ≡ place_at bytes es q
      → place_at bytes (cond b ((e.0, w) ∷ es) (e ∷ set_value (at key) es w)) q ≡ place_at bytes (e ∷ es) q
  set_apart_by e es key w q true is apart more =
      let also : is_eq (bytes_cmp q (bytes e.0)) ≡ false = subst (λ (x : List ℕ). is_eq (bytes_cmp q x) ≡ false) (same key (bytes e.0) is) apart in
      rw also refl
  set_apart_by e es key w q false is apart more = ap (cond (is_eq (bytes_cmp q (bytes e.0))) (Some e.1)) more

  pub set_apart : (es : Entries) (key : List ℕ) (w : Option (List ℕ)) (q : List ℕ) → is_eq (bytes_cmp q key) ≡ false → place_at bytes (set_value (at key) es w) q ≡ place_at bytes es q
  set_apart [] key w q apart = refl
  set_apart (e ∷ es) key w q apart = set_apart_by e es key w q (is_eq (bytes_cmp key (bytes e.0))) refl apart (set_apart es key w q apart)

  -- ---- what the places mean

  pub get-stored : (es : Entries) (q : List ℕ) → get (stored bytes es) q ≡ value_in (place_at bytes es q)
  get-stored [] q = get-empty bytes_cmp q
  get-stored (e ∷ es) q =
      get-with_at (stored bytes es) (bytes e.0) e.1 q
      ∙ ap (cond (is_eq (bytes_cmp q (bytes e.0))) e.1) (get-stored es q)
      ∙ value_of_place (is_eq (bytes_cmp q (bytes e.0))) e.1 (place_at bytes es q)

  -- places that mean the same values make the same map
  pub stored_same : (es fs : Entries) → ((q : List ℕ) → value_in (place_at bytes fs q) ≡ value_in (place_at bytes es q)) → stored bytes fs ≡ stored bytes es
  stored_same es fs alike = same_map total exact _ _ (λ q. get-stored fs q ∙ alike q ∙ sym (get-stored es q))

  at_each : (es fs : Entries) (key : List ℕ) (w : Option (List ℕ)) → value_in (place_at bytes fs key) ≡ w
      → ((q : List ℕ) → is_eq (bytes_cmp q key) ≡ false → place_at bytes fs q ≡ place_at bytes es q)
      → (q : List ℕ) → value_in (place_at bytes fs q) ≡ cond (is_eq (bytes_cmp q key)) w (value_in (place_at bytes es q))
  at_each es fs key w here apart q =
      elim (same_or_apart q key) [
        | inl is ↦ subst (λ (x : List ℕ). value_in (place_at bytes fs x) ≡ cond (is_eq (bytes_cmp x key)) w (value_in (place_at bytes es x))) (sym is) (rw (itself key) here)
        | inr differs ↦ rw differs (ap value_in (apart q differs))
      ]

  -- places that differ at one key make maps that differ there
  pub stored_changed : (es fs : Entries) (key : List ℕ) (w : Option (List ℕ)) → value_in (place_at bytes fs key) ≡ w
      → ((q : List ℕ) → is_eq (bytes_cmp q key) ≡ false → place_at bytes fs q ≡ place_at bytes es q)
      → stored bytes fs ≡ with_at (stored bytes es) key w
  stored_changed es fs key w here apart =
      same_map total exact _ _ (λ q. get-stored fs q ∙ at_each es fs key w here apart q ∙ ap (cond (is_eq (bytes_cmp q key)) w) (sym (get-stored es q)) ∙ sym (get-with_at (stored bytes es) key w q))

  -- ---- a place that is made

  pub made_kept : (es : Entries) (k : K) (other : List ℕ) → is_placed bytes es other ≡ true → is_placed bytes (insert_entry cmp es k None) other ≡ true
  made_kept es k other placed =
      elim (same_or_apart other (bytes k)) [
        | inl is ↦ subst (λ (x : List ℕ). is_placed bytes (insert_entry cmp es k None) x ≡ true) (sym is) (ap is_some (insert_here es k None))
        | inr differs ↦ ap is_some (insert_apart es k None other differs) ∙ placed
      ]

  pub made_same : (es : Entries) (k : K) → is_placed bytes es (bytes k) ≡ false → stored bytes (insert_entry cmp es k None) ≡ stored bytes es
  made_same es k absent =
      stored_same es (insert_entry cmp es k None) (λ q. elim (same_or_apart q (bytes k)) [
        | inl is ↦ subst (λ (x : List ℕ). value_in (place_at bytes (insert_entry cmp es k None) x) ≡ value_in (place_at bytes es x)) (sym is) (ap value_in (insert_here es k None) ∙ sym (ap value_in (none_of (place_at bytes es (bytes k)) absent)))
        | inr differs ↦ ap value_in (insert_apart es k None q differs)
      ])

  -- ---- a place that is written

  pub set_kept : (es : Entries) (key : List ℕ) (w : Option (List ℕ)) (other : List ℕ) → is_placed bytes es key ≡ true → is_placed bytes (set_value (λ k. is_at (λ x. bytes_cmp key (bytes x)) k) es w) other ≡ is_placed bytes es other
  set_kept es key w other placed =
      elim (same_or_apart other key) [
        | inl is ↦ subst (λ (x : List ℕ). is_placed bytes (set_value (λ k. is_at (λ y. bytes_cmp key (bytes y)) k) es w) x ≡ is_placed bytes es x) (sym is) (ap is_some (set_here es key w placed) ∙ sym placed)
        | inr differs ↦ ap is_some (set_apart es key w other differs)
      ]

  pub set_stored : (es : Entries) (key : List ℕ) (w : Option (List ℕ)) → is_placed bytes es key ≡ true → stored bytes (set_value (λ k. is_at (λ x. bytes_cmp key (bytes x)) k) es w) ≡ with_at (stored bytes es) key w
  set_stored es key w placed =
      stored_changed es (set_value (λ k. is_at (λ x. bytes_cmp key (bytes x)) k) es w) key w (ap value_in (set_here es key w placed)) (λ q differs. set_apart es key w q differs)
