-- Which chain stands on an edge.
use Rattle.std.proofs.Common.{◌≡◌, ℕ, List, ◌∷◌, None, Some, true, false, cond, refl, ap, sym, ◌∙◌}
use Rattle.std.specs.FinMap.{get}
use Rattle.graph_model.specs.declared.edge_id.EdgeId.{EdgeId}
use Rattle.maps.proofs.Keys.{nat_keys}
use Rattle.maps.proofs.Found.{found_is, found_none, found_alone, none_found}
use Rattle.part_keys.specs.declared.chain.PrimeRec.{PrimeRec}
use Rattle.part_rules.specs.Part.{Part, is_on, chain_among, chain_on}

cons : (e : EdgeId) (c : ℕ × PrimeRec) (cs : List (ℕ × PrimeRec)) → chain_among (c ∷ cs) e ≡ cond (is_on e c.1) (Some c.1) (chain_among cs e)
cons e c cs = refl

module _ (p : Part) (e : EdgeId) where
  -- the chain that stands on an edge is one of the chains, and is on it
  pub on_is : (c : PrimeRec) → chain_on p e ≡ Some c → (v : ℕ) × (get p.chains v ≡ Some c) × (is_on e c ≡ true)
  on_is c h = let f = found_is nat_keys (is_on e) (λ x. x.1) (λ cs. chain_among cs e) refl (cons e) p.chains c h in
      (f.0, f.2 ∙ ap Some f.4, ap (is_on e) (sym f.4) ∙ f.3)

  -- no chain stands on an edge: none of the chains is on it
  pub on_none : chain_on p e ≡ None → (v : ℕ) (c : PrimeRec) → get p.chains v ≡ Some c → is_on e c ≡ false
  on_none h v c there = none_found nat_keys (is_on e) (λ x. x.1) (λ cs. chain_among cs e) refl (cons e) p.chains h v c there

  pub none_on : ((v : ℕ) (c : PrimeRec) → get p.chains v ≡ Some c → is_on e c ≡ false) → chain_on p e ≡ None
  none_on h = found_none nat_keys (is_on e) (λ x. x.1) (λ cs. chain_among cs e) refl (cons e) p.chains h

  -- the one chain that is on an edge stands on it
  pub alone_on : (v : ℕ) (c : PrimeRec) → get p.chains v ≡ Some c → is_on e c ≡ true → ((w : ℕ) (d : PrimeRec) → get p.chains w ≡ Some d → is_on e d ≡ true → w ≡ v) → chain_on p e ≡ Some c
  alone_on v c there on alone = found_alone nat_keys (is_on e) (λ x. x.1) (λ cs. chain_among cs e) refl (cons e) p.chains v c there on alone
