-- Facts of a state that is changed at one key: at this key, and at the others.
use Rattle.std.proofs.Common.{◌≡◌, inl, inr, ℕ, List, Option, Some, refl, ap, sym, ◌∙◌}
use Rattle.std.specs.FinMap.{get}
use Rattle.std.specs.Option.{option_map}
use Rattle.graph_bytes.specs.Spelling.{row}
use Rattle.graph_model.specs.Keys.{edge_of, in_key}
use Rattle.graph_model.specs.declared.edge_id.EdgeId.{EdgeId}
use Rattle.graph_model.specs.declared.in_key.InKey.{InKey}
use Rattle.graph_model.specs.declared.tag_key.TagKey.{TagKey}
use Rattle.graph_model.specs.declared.val.Val.{Val}
use Rattle.graph_model.specs.declared.vid.Vid.{Vid}
use Rattle.graph_model.proofs.KeyLemmas.{tag_keys, edge_keys, in_keys}
use Rattle.maps.specs.Maps.{with_at}
use Rattle.maps.proofs.Keys.{same_or_apart, nat_keys}
use Rattle.maps.proofs.Updates.{with_at_here, with_at_apart}
use Rattle.part_keys.specs.declared.in_half.InHalf.{InHalf}
use Rattle.part_keys.specs.declared.key.Key.{Key}
use Rattle.part_keys.specs.declared.key.Key.TheVariants.{Tag, OutEdge, InEdge, Guard, Client}
use Rattle.part_keys.specs.KeyOrder.{tag_at, part_in}
use Rattle.part_rules.specs.declared.kept.Kept.{Kept}
use Rattle.part_rules.specs.Part.{Part}
use Rattle.part_store.specs.Facts.{fact}
use Rattle.part_store.specs.Values.{in_value, guard_value, client_value}

module _ (part : ℕ) (p : Part) where
  -- ---- a tag

  abbrev pub tag_set : Vid → ℕ → Option (List Val) → Part
  tag_set v tag w = record p { tags = with_at p.tags (tag_at v tag) w }

  pub tag_here : (v : Vid) (tag : ℕ) (w : Option (List Val)) → fact (tag_set v tag w) (Tag part v tag) ≡ option_map row w
  tag_here v tag w = ap (option_map row) (with_at_here tag_keys p.tags (tag_at v tag) w)

  pub tag_others : (v : Vid) (tag : ℕ) (w : Option (List Val)) (l : Key) → part_in l ≡ part → (Tag part v tag ≡ l → ⊥) → fact (tag_set v tag w) l ≡ fact p l
  tag_others v tag w (Tag r u t) of ne = elim (same_or_apart tag_keys (tag_at u t) (tag_at v tag)) as (λ _. option_map row (get (with_at p.tags (tag_at v tag) w) (tag_at u t)) ≡ option_map row (get p.tags (tag_at u t))) [
    | inl same ↦ absurd (ne (ap (λ (k : TagKey). Tag part k.vid k.tag) (sym same) ∙ ap (λ (s : ℕ). Tag s u t) (sym of)))
    | inr apart ↦ ap (option_map row) (with_at_apart tag_keys p.tags (tag_at v tag) w (tag_at u t) apart)
  ]
  tag_others v tag w _ of ne = refl

  -- ---- an out-half

  abbrev pub out_set : EdgeId → Option (List Val) → Part
  out_set e w = record p { out = with_at p.out e w }

  pub out_here : (e : EdgeId) (w : Option (List Val)) → fact (out_set e w) (OutEdge part e) ≡ option_map row w
  out_here e w = ap (option_map row) (with_at_here edge_keys p.out e w)

  pub out_others : (e : EdgeId) (w : Option (List Val)) (l : Key) → part_in l ≡ part → (OutEdge part e ≡ l → ⊥) → fact (out_set e w) l ≡ fact p l
  out_others e w (OutEdge r f) of ne = elim (same_or_apart edge_keys f e) as (λ _. option_map row (get (with_at p.out e w) f) ≡ option_map row (get p.out f)) [
    | inl same ↦ absurd (ne (ap (OutEdge part) (sym same) ∙ ap (λ (s : ℕ). OutEdge s f) (sym of)))
    | inr apart ↦ ap (option_map row) (with_at_apart edge_keys p.out e w f apart)
  ]
  out_others e w _ of ne = refl

  -- ---- an in-half

  abbrev pub in_set : EdgeId → Option InHalf → Part
  in_set e w = record p { inn = with_at p.inn (in_key e) w }

  pub in_here : (e : EdgeId) (w : Option InHalf) → fact (in_set e w) (InEdge part e) ≡ option_map in_value w
  in_here e w = ap (option_map in_value) (with_at_here in_keys p.inn (in_key e) w)

  pub in_others : (e : EdgeId) (w : Option InHalf) (l : Key) → part_in l ≡ part → (InEdge part e ≡ l → ⊥) → fact (in_set e w) l ≡ fact p l
  in_others e w (InEdge r f) of ne = elim (same_or_apart in_keys (in_key f) (in_key e)) as (λ _. option_map in_value (get (with_at p.inn (in_key e) w) (in_key f)) ≡ option_map in_value (get p.inn (in_key f))) [
    | inl same ↦ absurd (ne (ap (λ (k : InKey). InEdge part (edge_of k)) (sym same) ∙ ap (λ (s : ℕ). InEdge s f) (sym of)))
    | inr apart ↦ ap (option_map in_value) (with_at_apart in_keys p.inn (in_key e) w (in_key f) apart)
  ]
  in_others e w _ of ne = refl

  -- ---- a guard

  abbrev pub guard_set : ℕ → ℕ → Part
  guard_set source term = record p { guards = with_at p.guards source (Some term) }

  pub guard_here : (source term : ℕ) → fact (guard_set source term) (Guard part source) ≡ Some (guard_value term)
  guard_here source term = ap (option_map guard_value) (with_at_here nat_keys p.guards source (Some term))

  pub guard_others : (source term : ℕ) (l : Key) → part_in l ≡ part → (Guard part source ≡ l → ⊥) → fact (guard_set source term) l ≡ fact p l
  guard_others source term (Guard r other) of ne = elim (same_or_apart nat_keys other source) as (λ _. option_map guard_value (get (with_at p.guards source (Some term)) other) ≡ option_map guard_value (get p.guards other)) [
    | inl same ↦ absurd (ne (ap (Guard part) (sym same) ∙ ap (λ (s : ℕ). Guard s other) (sym of)))
    | inr apart ↦ ap (option_map guard_value) (with_at_apart nat_keys p.guards source (Some term) other apart)
  ]
  guard_others source term _ of ne = refl

  -- ---- a client

  abbrev pub client_set : ℕ → Kept → Part
  client_set client last = record p { clients = with_at p.clients client (Some last) }

  pub client_here : (client : ℕ) (last : Kept) → fact (client_set client last) (Client part client) ≡ Some (client_value last)
  client_here client last = ap (option_map client_value) (with_at_here nat_keys p.clients client (Some last))

  pub client_others : (client : ℕ) (last : Kept) (l : Key) → part_in l ≡ part → (Client part client ≡ l → ⊥) → fact (client_set client last) l ≡ fact p l
  client_others client last (Client r other) of ne = elim (same_or_apart nat_keys other client) as (λ _. option_map client_value (get (with_at p.clients client (Some last)) other) ≡ option_map client_value (get p.clients other)) [
    | inl same ↦ absurd (ne (ap (Client part) (sym same) ∙ ap (λ (s : ℕ). Client s other) (sym of)))
    | inr apart ↦ ap (option_map client_value) (with_at_apart nat_keys p.clients client (Some last) other apart)
  ]
  client_others client last _ of ne = refl
