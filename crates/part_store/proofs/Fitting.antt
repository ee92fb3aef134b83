-- A state whose facts have keys and spellings, behind a change at one key.
use Rattle.std.proofs.Common.{◌≡◌, inl, inr, ℕ, ◌<◌, ◌^◌, List, Option, Some, ap, sym, subst, ◌∙◌}
use Rattle.std.specs.FinMap.{get}
use Rattle.graph_bytes.specs.Fits.{FitsRow}
use Rattle.graph_model.specs.Keys.{in_key}
use Rattle.graph_model.specs.declared.edge_id.EdgeId.{EdgeId}
use Rattle.graph_model.specs.declared.in_key.InKey.{InKey}
use Rattle.graph_model.specs.declared.tag_key.TagKey.{TagKey}
use Rattle.graph_model.specs.declared.val.Val.{Val}
use Rattle.graph_model.specs.declared.vid.Vid.{Vid}
use Rattle.graph_model.proofs.KeyLemmas.{tag_keys, edge_keys, in_keys}
use Rattle.maps.specs.Maps.{with_at}
use Rattle.maps.proofs.Keys.{nat_keys, same_or_apart}
use Rattle.maps.proofs.Updates.{with_at_here, with_at_apart}
use Rattle.std.proofs.lemmas.Option.{same_Some}
use Rattle.part_keys.specs.declared.chain.PrimeRec.{PrimeRec}
use Rattle.part_keys.specs.declared.in_half.InHalf.{InHalf}
use Rattle.part_keys.specs.declared.key.Key.TheVariants.{Tag, OutEdge, Guard, Client}
use Rattle.part_keys.specs.KeyOrder.{tag_at}
use Rattle.part_keys.specs.Keys.{FitsKey}
use Rattle.part_rules.specs.declared.kept.Kept.{Kept}
use Rattle.part_rules.specs.Part.{Part}
use Rattle.part_rules.proofs.FoldsChains.{split_insert, split_remove}
use Rattle.part_store.specs.Keeps.{FitsPart, FitsIn, FitsChain, FitsOutcome}
use Rattle.part_store.specs.Laws.{IsNew}
use Rattle.part_store.specs.declared.setting.Setting.{Setting}
use Rattle.part_store.proofs.Facing.{tag_set, out_set, in_set, guard_set, client_set}
use Rattle.part_store.proofs.Standing.{with_chain, without_chain, begun_apart, ended_apart}

module _ (s : Setting) (p : Part) (fits : FitsPart s p) where
  pub fits_tag : (v : Vid) (tag : ℕ) (w : Option (List Val)) → FitsKey s.ids (Tag s.part v tag) → ((vals : List Val) → w ≡ Some vals → FitsRow vals) → FitsPart s (tag_set s.part p v tag w)
  fits_tag v tag w place row-fits = record {
    tags = λ t vals there. elim (same_or_apart tag_keys t (tag_at v tag)) as (λ _. FitsKey s.ids (Tag s.part t.vid t.tag) × FitsRow vals) [
      | inl is ↦ (subst (λ (k : TagKey). FitsKey s.ids (Tag s.part k.vid k.tag)) (sym is) place, row-fits vals (sym (with_at_here tag_keys p.tags (tag_at v tag) w) ∙ ap (get (with_at p.tags (tag_at v tag) w)) (sym is) ∙ there))
      | inr apart ↦ fits.tags t vals (sym (with_at_apart tag_keys p.tags (tag_at v tag) w t apart) ∙ there)
    ];
    out = fits.out;
    inn = fits.inn;
    chains = fits.chains;
    apart = fits.apart;
    guards = fits.guards;
    clients = fits.clients;
  }

  pub fits_out : (e : EdgeId) (w : Option (List Val)) → FitsKey s.ids (OutEdge s.part e) → ((vals : List Val) → w ≡ Some vals → FitsRow vals) → FitsPart s (out_set s.part p e w)
  fits_out e w place row-fits = record {
    out = λ f vals there. elim (same_or_apart edge_keys f e) as (λ _. FitsKey s.ids (OutEdge s.part f) × FitsRow vals) [
      | inl is ↦ (subst (λ (k : EdgeId). FitsKey s.ids (OutEdge s.part k)) (sym is) place, row-fits vals (sym (with_at_here edge_keys p.out e w) ∙ ap (get (with_at p.out e w)) (sym is) ∙ there))
      | inr apart ↦ fits.out f vals (sym (with_at_apart edge_keys p.out e w f apart) ∙ there)
    ];
    tags = fits.tags;
    inn = fits.inn;
    chains = fits.chains;
    apart = fits.apart;
    guards = fits.guards;
    clients = fits.clients;
  }

  pub fits_in : (e : EdgeId) (half : InHalf) → FitsIn s (in_key e) half → FitsPart s (in_set s.part p e (Some half))
  fits_in e half half-fits = record {
    inn = λ k kept there. elim (same_or_apart in_keys k (in_key e)) as (λ _. FitsIn s k kept) [
      | inl is ↦
          let half-is : half ≡ kept = same_Some half kept (sym (with_at_here in_keys p.inn (in_key e) (Some half)) ∙ ap (get (with_at p.inn (in_key e) (Some half))) (sym is) ∙ there) in
          subst (λ (x : InHalf). FitsIn s k x) half-is (subst (λ (x : InKey). FitsIn s x half) (sym is) half-fits)
      | inr apart ↦ fits.inn k kept (sym (with_at_apart in_keys p.inn (in_key e) (Some half) k apart) ∙ there)
    ];
    tags = fits.tags;
    out = fits.out;
    chains = fits.chains;
    apart = fits.apart;
    guards = fits.guards;
    clients = fits.clients;
  }

  pub fits_guard : (source term : ℕ) → FitsKey s.ids (Guard s.part source) → term < 2 ^ 64 → FitsPart s (guard_set s.part p source term)
  fits_guard source term place small = record {
    guards = λ other last there. elim (same_or_apart nat_keys other source) as (λ _. FitsKey s.ids (Guard s.part other) × (last < 2 ^ 64)) [
      | inl is ↦
          let term-is : term ≡ last = same_Some term last (sym (with_at_here nat_keys p.guards source (Some term)) ∙ ap (get (with_at p.guards source (Some term))) (sym is) ∙ there) in
          (subst (λ (x : ℕ). FitsKey s.ids (Guard s.part x)) (sym is) place, subst (λ (x : ℕ). x < 2 ^ 64) term-is small)
      | inr apart ↦ fits.guards other last (sym (with_at_apart nat_keys p.guards source (Some term) other apart) ∙ there)
    ];
    tags = fits.tags;
    out = fits.out;
    inn = fits.inn;
    chains = fits.chains;
    apart = fits.apart;
    clients = fits.clients;
  }

  pub fits_client : (client : ℕ) (last : Kept) → FitsKey s.ids (Client s.part client) → last.number < 2 ^ 64 → FitsOutcome last.outcome → FitsPart s (client_set s.part p client last)
  fits_client client last place small outcome-fits = record {
    clients = λ other kept there. elim (same_or_apart nat_keys other client) as (λ _. FitsKey s.ids (Client s.part other) × (kept.number < 2 ^ 64) × FitsOutcome kept.outcome) [
      | inl is ↦
          let last-is : last ≡ kept = same_Some last kept (sym (with_at_here nat_keys p.clients client (Some last)) ∙ ap (get (with_at p.clients client (Some last))) (sym is) ∙ there) in
          (subst (λ (x : ℕ). FitsKey s.ids (Client s.part x)) (sym is) place, subst (λ (x : Kept). x.number < 2 ^ 64) last-is small, subst (λ (x : Kept). FitsOutcome x.outcome) last-is outcome-fits)
      | inr apart ↦ fits.clients other kept (sym (with_at_apart nat_keys p.clients client (Some last) other apart) ∙ there)
    ];
    tags = fits.tags;
    out = fits.out;
    inn = fits.inn;
    chains = fits.chains;
    apart = fits.apart;
    guards = fits.guards;
  }

  pub fits_begun : (v : ℕ) (chain : PrimeRec) → IsNew p v chain → FitsChain s v chain → FitsPart s (with_chain p v chain)
  fits_begun v chain new chain-fits = record {
    chains = λ u d there. elim (split_insert p.chains v chain u d there) as (λ _. FitsChain s u d) [
      | inl is ↦ subst (λ (x : PrimeRec). FitsChain s u x) is.1 (subst (λ (x : ℕ). FitsChain s x chain) (sym is.0) chain-fits)
      | inr old ↦ fits.chains u d old
    ];
    apart = begun_apart p v chain new fits.apart;
    tags = fits.tags;
    out = fits.out;
    inn = fits.inn;
    guards = fits.guards;
    clients = fits.clients;
  }

  pub fits_ended : (v : ℕ) (chain : PrimeRec) → get p.chains v ≡ Some chain → FitsPart s (without_chain p v)
  fits_ended v chain stands = record {
    chains = λ u d there. fits.chains u d (split_remove p.chains v u d there);
    apart = ended_apart p v chain stands fits.apart;
    tags = fits.tags;
    out = fits.out;
    inn = fits.inn;
    guards = fits.guards;
    clients = fits.clients;
  }
