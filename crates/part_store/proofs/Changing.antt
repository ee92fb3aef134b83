-- A store that keeps a state, behind a write at one key.
use Rattle.std.proofs.Common.{◌≡◌, inl, inr, ℕ, List, Option, false, ap, sym, subst, ◌∙◌}
use Rattle.std.specs.FinMap.{get}
use Rattle.std.specs.Ordering.{eq_by_cmp}
use Rattle.byte_fields.specs.Order.{bytes_cmp}
use Rattle.kv_part.specs.Store.{Contents}
use Rattle.maps.specs.Maps.{with_at}
use Rattle.maps.proofs.Keys.{same_or_apart, same_itself}
use Rattle.maps.proofs.Updates.{with_at_here, with_at_apart}
use Rattle.part_keys.specs.declared.key.Key.{Key}
use Rattle.part_keys.specs.KeyOrder.{part_in}
use Rattle.part_keys.specs.Keys.{key, IsKind, FitsKey}
use Rattle.part_rules.specs.Part.{Part}
use Rattle.part_store.specs.Facts.{fact}
use Rattle.part_store.specs.Keeps.{Keeps, FitsPart, HasKeysOf}
use Rattle.part_store.specs.declared.setting.Setting.{Setting}
use Rattle.part_store.proofs.SameKeys.{bytes_keys, same_key}

module _ (s : Setting) (is-kind : IsKind s.ids) where
  -- a key that is told apart from another isn't the other
  told : (k l : Key) → eq_by_cmp bytes_cmp (key s.ids l) (key s.ids k) ≡ false → k ≡ l → ⊥
  told k l apart e =
      let itself = same_itself bytes_keys (key s.ids k) in
      let other : eq_by_cmp bytes_cmp (key s.ids k) (key s.ids k) ≡ false = subst (λ (x : Key). eq_by_cmp bytes_cmp (key s.ids x) (key s.ids k) ≡ false) (sym e) apart in
      absurd cc

  -- keys of the part are all that there is behind a write at one
  pub only_with : (m : Contents) (k : Key) (w : Option (List ℕ)) → FitsKey s.ids k → part_in k ≡ s.part → HasKeysOf s m → HasKeysOf s (with_at m (key s.ids k) w)
  only_with m k w fits of only = λ bytes value there. elim (same_or_apart bytes_keys bytes (key s.ids k)) as (λ _. (l : Key) × FitsKey s.ids l × (part_in l ≡ s.part) × (bytes ≡ key s.ids l)) [
    | inl same ↦ (k, fits, of, same)
    | inr apart ↦ only bytes value (sym (with_at_apart bytes_keys m (key s.ids k) w bytes apart) ∙ there)
  ]

  -- Behind a write at one key the store keeps the state that has this there, and else what it had.
  pub changed : (p q : Part) (m : Contents) (k : Key) (w : Option (List ℕ)) → FitsKey s.ids k → part_in k ≡ s.part → Keeps s p m
      → fact q k ≡ w → ((l : Key) → part_in l ≡ s.part → (k ≡ l → ⊥) → fact q l ≡ fact p l) → FitsPart s q → Keeps s q (with_at m (key s.ids k) w)
  changed p q m k w fits of keeps here others q-fits = record {
    facts = λ l l-fits l-of. elim (same_or_apart bytes_keys (key s.ids l) (key s.ids k)) as (λ _. get (with_at m (key s.ids k) w) (key s.ids l) ≡ fact q l) [
      | inl same ↦ ap (get (with_at m (key s.ids k) w)) same ∙ with_at_here bytes_keys m (key s.ids k) w ∙ sym here ∙ ap (fact q) (sym (same_key s.ids is-kind l k l-fits fits same))
      | inr apart ↦ with_at_apart bytes_keys m (key s.ids k) w (key s.ids l) apart ∙ keeps.facts l l-fits l-of ∙ sym (others l l-of (told k l apart))
    ];
    only = only_with m k w fits of keeps.only;
    fits = q-fits;
  }

  -- where nothing is said anew the store stays
  pub unchanged : (p q : Part) (m : Contents) → Keeps s p m → ((l : Key) → part_in l ≡ s.part → fact q l ≡ fact p l) → FitsPart s q → Keeps s q m
  unchanged p q m keeps same q-fits = record { facts = λ l l-fits l-of. keeps.facts l l-fits l-of ∙ sym (same l l-of); only = keeps.only; fits = q-fits }
