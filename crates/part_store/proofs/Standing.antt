-- Which chain stands on an edge, where one begins or ends.
use Rattle.std.proofs.Common.{◌≡◌, inl, inr, ℕ, Option, None, Some, true, false, refl, ap, sym, ◌∙◌}
use Rattle.std.specs.FinMap.{FinMap, get, insert, remove}
use Rattle.std.specs.Ordering.{nat_cmp}
use Rattle.graph_model.specs.declared.edge_id.EdgeId.{EdgeId}
use Rattle.maps.proofs.Keys.{nat_keys}
use Rattle.maps.proofs.Updates.{insert_here, insert_apart, remove_here, remove_apart}
use Rattle.std.proofs.lemmas.Option.{same_Some}
use Rattle.std.proofs.lemmas.Bool.{false_from_ne_true}
use Rattle.maps.proofs.Keys.{apart_of_ne}
use Rattle.part_keys.specs.declared.chain.PrimeRec.{PrimeRec}
use Rattle.part_rules.specs.Part.{Part, is_on, chain_on}
use Rattle.part_store.specs.Laws.{IsNew}
use Rattle.part_rules.proofs.FoldsChains.{split_insert, split_remove}
use Rattle.part_rules.proofs.FoldsOn.{on_is, on_none, none_on, alone_on}

-- at most one chain is on an edge
abbrev pub AreApart : Part → Type 0
AreApart p = (v u : ℕ) (c d : PrimeRec) (e : EdgeId) → get p.chains v ≡ Some c → get p.chains u ≡ Some d → is_on e c ≡ true → is_on e d ≡ true → v ≡ u

-- ---- a chain begins

abbrev pub with_chain : Part → ℕ → PrimeRec → Part
with_chain p v chain = record p { chains = insert p.chains v chain }

module _ (p : Part) (v : ℕ) (chain : PrimeRec) (new : IsNew p v chain) where
  -- another chain isn't on an edge of it
  other_off : (e : EdgeId) → is_on e chain ≡ true → (u : ℕ) (d : PrimeRec) → get p.chains u ≡ Some d → is_on e d ≡ true → ⊥
  other_off e on u d there on' = let off = on_none p e (new.free e on) u d there in absurd cc

  pub begun_on : (e : EdgeId) → is_on e chain ≡ true → chain_on (with_chain p v chain) e ≡ Some chain
  begun_on e on = alone_on (with_chain p v chain) e v chain (insert_here nat_keys p.chains v chain) on (λ u d there on'. elim (split_insert p.chains v chain u d there) as (λ _. u ≡ v) [
    | inl is ↦ is.0
    | inr old ↦ absurd (other_off e on u d old on')
  ])

  begun_else : AreApart p → (e : EdgeId) → is_on e chain ≡ false → (o : Option PrimeRec) → chain_on p e ≡ o → chain_on (with_chain p v chain) e ≡ o
  begun_else apart e off None was = none_on (with_chain p v chain) e (λ u d there. elim (split_insert p.chains v chain u d there) as (λ _. is_on e d ≡ false) [
    | inl is ↦ ap (is_on e) (sym is.1) ∙ off
    | inr old ↦ on_none p e was u d old
  ])
  begun_else apart e off (Some c) was =
      let o = on_is p e c was in
      let told = apart_of_ne nat_keys o.0 v (λ is. let t : None ≡ Some c = sym new.fresh ∙ ap (get p.chains) (sym is) ∙ o.1 in absurd cc) in
      alone_on (with_chain p v chain) e o.0 c (insert_apart nat_keys p.chains v chain o.0 told ∙ o.1) o.2 (λ u d there on. elim (split_insert p.chains v chain u d there) as (λ _. u ≡ o.0) [
        | inl is ↦ (let f = ap (is_on e) is.1 in absurd cc)
        | inr old ↦ apart u o.0 d c e old o.1 on o.2
      ])

  pub begun_off : AreApart p → (e : EdgeId) → is_on e chain ≡ false → chain_on (with_chain p v chain) e ≡ chain_on p e
  begun_off apart e off = begun_else apart e off (chain_on p e) refl

  pub begun_apart : AreApart p → AreApart (with_chain p v chain)
  begun_apart apart a b c d e at to on up = elim (split_insert p.chains v chain a c at) as (λ _. a ≡ b) [
    | inl first ↦ elim (split_insert p.chains v chain b d to) as (λ _. a ≡ b) [
      | inl second ↦ first.0 ∙ sym second.0
      | inr old ↦ absurd (other_off e (ap (is_on e) first.1 ∙ on) b d old up)
    ]
    | inr was ↦ elim (split_insert p.chains v chain b d to) as (λ _. a ≡ b) [
      | inl second ↦ absurd (other_off e (ap (is_on e) second.1 ∙ up) a c was on)
      | inr old ↦ apart a b c d e was old on up
    ]
  ]

-- ---- a chain ends

abbrev pub without_chain : Part → ℕ → Part
without_chain p v = record p { chains = remove p.chains v }

-- what stands behind a removal stood at another number
split_off : (m : FinMap nat_cmp PrimeRec) (k u : ℕ) (d : PrimeRec) → get (remove m k) u ≡ Some d → k ≡ u → ⊥
split_off m k u d there is = let t : None ≡ Some d = sym (remove_here nat_keys m k) ∙ ap (get (remove m k)) is ∙ there in cc

module _ (p : Part) (v : ℕ) (chain : PrimeRec) (stands : get p.chains v ≡ Some chain) (apart : AreApart p) where
  pub stood_on : (e : EdgeId) → is_on e chain ≡ true → chain_on p e ≡ Some chain
  stood_on e on = alone_on p e v chain stands on (λ u d there on'. apart u v d chain e there stands on' on)

  pub ended_on : (e : EdgeId) → is_on e chain ≡ true → chain_on (without_chain p v) e ≡ None
  ended_on e on = none_on (without_chain p v) e (λ u d there.
      false_from_ne_true (is_on e d) (λ on'. split_off p.chains v u d there (apart v u chain d e stands (split_remove p.chains v u d there) on on')))

  ended_else : (e : EdgeId) → is_on e chain ≡ false → (o : Option PrimeRec) → chain_on p e ≡ o → chain_on (without_chain p v) e ≡ o
  ended_else e off None was = none_on (without_chain p v) e (λ u d there. on_none p e was u d (split_remove p.chains v u d there))
  ended_else e off (Some c) was =
      let o = on_is p e c was in
      let told = apart_of_ne nat_keys o.0 v (λ is. let f : c ≡ chain = same_Some c chain (sym o.1 ∙ ap (get p.chains) is ∙ stands) in let g = ap (is_on e) f in absurd cc) in
      alone_on (without_chain p v) e o.0 c (remove_apart nat_keys p.chains v o.0 told ∙ o.1) o.2 (λ u d there on. apart u o.0 d c e (split_remove p.chains v u d there) o.1 on o.2)

  pub ended_off : (e : EdgeId) → is_on e chain ≡ false → chain_on (without_chain p v) e ≡ chain_on p e
  ended_off e off = ended_else e off (chain_on p e) refl

  pub ended_apart : AreApart (without_chain p v)
  ended_apart a b c d e at to on up = apart a b c d e (split_remove p.chains v a c at) (split_remove p.chains v b d to) on up
