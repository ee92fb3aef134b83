-- A store that keeps a state, behind writes at the edges of a list.
use Rattle.std.proofs.Common.{◌≡◌, ◌⊎◌, inl, inr, ℕ, List, [], ◌∷◌, Option, None, Some, Bool, true, false, not, refl, ap, ap₂, sym, subst, ◌∙◌}
use Rattle.std.specs.Prelude.{◌||◌}
use Rattle.std.specs.FinMap.{get}
use Rattle.std.specs.List.{AllByRecursion}
use Rattle.std.specs.Ordering.{eq_by_cmp}
use Rattle.std.proofs.lemmas.Option.{same_Some}
use Rattle.byte_fields.specs.Order.{bytes_cmp}
use Rattle.graph_bytes.proofs.Once.{and_true}
use Rattle.graph_model.specs.Edges.{edges_in, is_once_each}
use Rattle.graph_model.specs.Keys.{edge_cmp}
use Rattle.graph_model.specs.declared.edge_id.EdgeId.{EdgeId}
use Rattle.graph_model.specs.declared.half.Half.{Half}
use Rattle.graph_model.proofs.KeyLemmas.{edge_keys}
use Rattle.kv_part.specs.Store.{Contents, after, written}
use Rattle.maps.specs.Keys.{has_key}
use Rattle.maps.specs.Lists.{at_key}
use Rattle.maps.specs.Maps.{with_at}
use Rattle.maps.proofs.Filling.{or_right}
use Rattle.maps.proofs.Keys.{same_or_apart, same_itself, apart_of_ne, not_apart}
use Rattle.maps.proofs.Pairs.{at_key_head, at_key_tail}
use Rattle.maps.proofs.Updates.{with_at_here, with_at_apart}
use Rattle.part_keys.specs.declared.key.Key.{Key}
use Rattle.part_keys.specs.declared.vid_kind.VidKind.{VidKind}
use Rattle.part_keys.specs.KeyOrder.{part_in}
use Rattle.part_keys.specs.Keys.{key, IsKind, FitsKey}
use Rattle.part_rules.specs.Part.{Part}
use Rattle.part_store.specs.Facts.{fact}
use Rattle.part_store.specs.Keeps.{Keeps, FitsPart, HasKeysOf}
use Rattle.part_store.specs.Writes.{set_at, set_each}
use Rattle.part_store.specs.declared.setting.Setting.{Setting}
use Rattle.part_store.proofs.SameKeys.{bytes_keys, same_key}
use Rattle.part_store.proofs.Changing.{only_with}

-- the map behind one write
pub one_write : (ids : VidKind) (m : Contents) (k : Key) (w : Option (List ℕ)) → after m (set_at ids k w) ≡ with_at m (key ids k) w
one_write ids m k None = refl
one_write ids m k (Some value) = refl

not_false : (a : Bool) → not a ≡ true → a ≡ false
not_false true e = absurd cc
not_false false e = refl

-- the first edge of a list is in it, and so are the others
first_in : (x : EdgeId × Half) (list : List (EdgeId × Half)) → has_key edge_cmp x.0 (edges_in (x ∷ list)) ≡ true
first_in x list = ap (λ (b : Bool). b || has_key edge_cmp x.0 (edges_in list)) (same_itself edge_keys x.0)

next_in : (x : EdgeId × Half) (list : List (EdgeId × Half)) (e : EdgeId) → has_key edge_cmp e (edges_in list) ≡ true → has_key edge_cmp e (edges_in (x ∷ list)) ≡ true
next_in x list e within = or_right (eq_by_cmp edge_cmp e x.0) (has_key edge_cmp e (edges_in list)) within

module _ (s : Setting) (is-kind : IsKind s.ids) (at : EdgeId → Key) (value : EdgeId × Half → Option (List ℕ))
    (of : (e : EdgeId) → part_in (at e) ≡ s.part) (same : (e f : EdgeId) → at e ≡ at f → e ≡ f) where
  abbrev pub FitsAt : EdgeId × Half → Type 0
  FitsAt x = FitsKey s.ids (at x.0)

  -- a key of no edge of the list
  abbrev pub IsElse : List (EdgeId × Half) → Key → Type 0
  IsElse list l = (e : EdgeId) → has_key edge_cmp e (edges_in list) ≡ true → at e ≡ l → ⊥

  -- it keeps what it had
  each_else : (m : Contents) (list : List (EdgeId × Half)) (l : Key) → FitsKey s.ids l → AllByRecursion FitsAt list → IsElse list l → get (written m (set_each s.ids at value list)) (key s.ids l) ≡ get m (key s.ids l)
  each_else m [] l l-fits all ne = refl
  each_else m (x ∷ list) l l-fits all ne =
      each_else (after m (set_at s.ids (at x.0) (value x))) list l l-fits all.1 (λ e within. ne e (next_in x list e within))
      ∙ ap (λ (n : Contents). get n (key s.ids l)) (one_write s.ids m (at x.0) (value x))
      ∙ with_at_apart bytes_keys m (key s.ids (at x.0)) (value x) (key s.ids l)
      (apart_of_ne bytes_keys (key s.ids l) (key s.ids (at x.0)) (λ e. ne x.0 (first_in x list) (sym (same_key s.ids is-kind l (at x.0) l-fits all.0 e))))

  -- the first edge has what is written for it
  each_first : (m : Contents) (x : EdgeId × Half) (list : List (EdgeId × Half)) → AllByRecursion FitsAt (x ∷ list) → has_key edge_cmp x.0 (edges_in list) ≡ false → get (written m (set_each s.ids at value (x ∷ list))) (key s.ids (at x.0)) ≡ value x
  each_first m x list all out =
      each_else (after m (set_at s.ids (at x.0) (value x))) list (at x.0) all.0 all.1 (λ e within is. missed e within (same e x.0 is))
      ∙ ap (λ (n : Contents). get n (key s.ids (at x.0))) (one_write s.ids m (at x.0) (value x))
      ∙ with_at_here bytes_keys m (key s.ids (at x.0)) (value x)
    where
      missed : (e : EdgeId) → has_key edge_cmp e (edges_in list) ≡ true → e ≡ x.0 → ⊥
      missed e within is =
          let there : has_key edge_cmp x.0 (edges_in list) ≡ true = ap (λ (f : EdgeId). has_key edge_cmp f (edges_in list)) (sym is) ∙ within in
          absurd cc

  -- and so has each
  each_here : (m : Contents) (list : List (EdgeId × Half)) (e : EdgeId) (h : Half) → AllByRecursion FitsAt list → is_once_each (edges_in list) ≡ true → at_key edge_cmp e list ≡ Some h → get (written m (set_each s.ids at value list)) (key s.ids (at e)) ≡ value (e, h)
  each_here m [] e h all once there = absurd cc
  each_here m (x ∷ list) e h all once there =
      let o = and_true (not (has_key edge_cmp x.0 (edges_in list))) (is_once_each (edges_in list)) once in
      elim (same_or_apart edge_keys e x.0) as (λ _. get (written m (set_each s.ids at value (x ∷ list))) (key s.ids (at e)) ≡ value (e, h)) [
        | inl is ↦
            let first : at_key edge_cmp e (x ∷ list) ≡ Some x.1 = at_key_head edge_cmp e x list (ap (λ (f : EdgeId). eq_by_cmp edge_cmp f x.0) is ∙ same_itself edge_keys x.0) in
            let half-is : x.1 ≡ h = same_Some x.1 h (sym first ∙ there) in
            ap (λ (f : EdgeId). get (written m (set_each s.ids at value (x ∷ list))) (key s.ids (at f))) is
            ∙ each_first m x list all (not_false _ o.0)
            ∙ ap₂ (λ (f : EdgeId) (g : Half). value (f, g)) (sym is) half-is
        | inr apart ↦ each_here (after m (set_at s.ids (at x.0) (value x))) list e h all.1 o.1 (sym (at_key_tail edge_cmp e x list apart) ∙ there)
      ]

  -- a key is that of an edge of the list, or of none
  touched : (list : List (EdgeId × Half)) (l : Key) → FitsKey s.ids l → AllByRecursion FitsAt list → ((e : EdgeId) × (h : Half) × (at_key edge_cmp e list ≡ Some h) × (at e ≡ l)) ⊎ IsElse list l
  touched [] l l-fits all = inr (λ e within is. absurd cc)
  touched (x ∷ list) l l-fits all = elim (same_or_apart bytes_keys (key s.ids l) (key s.ids (at x.0))) [
    | inl is ↦ inl (x.0, x.1, at_key_head edge_cmp x.0 x list (same_itself edge_keys x.0), sym (same_key s.ids is-kind l (at x.0) l-fits all.0 is))
    | inr apart ↦ elim (touched list l l-fits all.1) [
      | inl t ↦ inl (t.0, t.1, at_key_tail edge_cmp t.0 x list (apart_of_ne edge_keys t.0 x.0 (λ e. differs (t.3) e apart)) ∙ t.2, t.3)
      | inr ne ↦ inr (λ e within is. elim (same_or_apart edge_keys e x.0) [
        | inl e-is ↦ differs is e-is apart
        | inr e-apart ↦ ne e (sym (ap (λ (b : Bool). b || has_key edge_cmp e (edges_in list)) e-apart) ∙ within) is
      ])
    ]
  ]
    where
      differs : {e : EdgeId} → at e ≡ l → e ≡ x.0 → eq_by_cmp bytes_cmp (key s.ids l) (key s.ids (at x.0)) ≡ false → ⊥
      differs {e} is e-is apart = not_apart bytes_keys (key s.ids l) (key s.ids (at x.0)) (ap (key s.ids) (sym is ∙ ap at e-is)) apart

  -- keys of the part are all that there is
  each_only : (m : Contents) (list : List (EdgeId × Half)) → AllByRecursion FitsAt list → HasKeysOf s m → HasKeysOf s (written m (set_each s.ids at value list))
  each_only m [] all only = only
  each_only m (x ∷ list) all only =
      each_only (after m (set_at s.ids (at x.0) (value x))) list all.1
      (subst (HasKeysOf s) (sym (one_write s.ids m (at x.0) (value x))) (only_with s is-kind m (at x.0) (value x) all.0 (of x.0) only))

  -- Behind writes at the edges of a list the store keeps the state that has these there, and else what it had.
  pub keeps_each : (p q : Part) (m : Contents) (list : List (EdgeId × Half)) → Keeps s p m → AllByRecursion FitsAt list → is_once_each (edges_in list) ≡ true
      → ((e : EdgeId) (h : Half) → at_key edge_cmp e list ≡ Some h → fact q (at e) ≡ value (e, h))
      → ((l : Key) → part_in l ≡ s.part → IsElse list l → fact q l ≡ fact p l)
      → FitsPart s q → Keeps s q (written m (set_each s.ids at value list))
  keeps_each p q m list keeps all once here others q-fits = record {
    facts = λ l l-fits l-of. elim (touched list l l-fits all) as (λ _. get (written m (set_each s.ids at value list)) (key s.ids l) ≡ fact q l) [
      | inl t ↦ ap (λ (k : Key). get (written m (set_each s.ids at value list)) (key s.ids k)) (sym t.3) ∙ each_here m list t.0 t.1 all once t.2 ∙ sym (here t.0 t.1 t.2) ∙ ap (fact q) t.3
      | inr ne ↦ each_else m list l l-fits all ne ∙ keeps.facts l l-fits l-of ∙ sym (others l l-of ne)
    ];
    only = each_only m list all keeps.only;
    fits = q-fits;
  }
