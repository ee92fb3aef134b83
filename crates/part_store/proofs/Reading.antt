-- What is read in a store is what the state has that it keeps.
use Rattle.std.proofs.Common.{◌≡◌, ℕ, ◌<◌, ◌^◌, List, Option, None, Some, Bool, true, false, cond, is_some, refl, ap, sym, subst, ◌∙◌}
use Rattle.std.specs.FinMap.{get, contains_key}
use Rattle.std.specs.Option.{option_map, unwrap_or}
use Rattle.graph_bytes.specs.Fits.{FitsCall}
use Rattle.graph_bytes.specs.Spelling.{row, half}
use Rattle.graph_model.specs.Keys.{edge_cmp, in_key}
use Rattle.graph_model.specs.declared.edge_id.EdgeId.{EdgeId}
use Rattle.graph_model.specs.declared.half.Half.{Half}
use Rattle.graph_model.specs.declared.vid.Vid.{Vid}
use Rattle.kv_part.specs.Store.{Contents}
use Rattle.maps.specs.Lists.{at_key}
use Rattle.maps.proofs.Pairs.{at_key_in}
use Rattle.part_keys.specs.declared.chain.PrimeRec.{PrimeRec}
use Rattle.part_keys.specs.declared.in_half.InHalf.{InHalf}
use Rattle.part_keys.specs.declared.key.Key.TheVariants.{Tag, OutEdge, InEdge, Prime, DoublePrime, Guard, Client}
use Rattle.part_keys.specs.KeyOrder.{tag_at}
use Rattle.part_keys.specs.Keys.{key, FitsKey}
use Rattle.part_rules.specs.declared.kept.Kept.{Kept}
use Rattle.part_rules.specs.Part.{Part, number_in, number_of, guard_of, chain_on}
use Rattle.part_rules.proofs.FoldsOn.{on_is}
use Rattle.part_store.specs.Facts.{prime_of, single_at, double_at}
use Rattle.part_store.specs.Keeps.{Keeps, FitsOutcome}
use Rattle.part_store.specs.Reads.{number_of_value, chain_of_value, last_of_value, value_of_two, tag_is_in, out_is_in, number_in_store, chain_in_store, guard_in_store, last_in_store}
use Rattle.part_store.specs.Values.{in_value, prime_value, guard_value, client_value}
use Rattle.part_store.specs.declared.setting.Setting.{Setting}
use Rattle.part_store.proofs.ReadBack.{number_back, guard_back, chain_back, last_back}

-- what is made of a value is there where the value is
there_of : {X : Type 0} (f : X → List ℕ) (o : Option X) → is_some (option_map f o) ≡ is_some o
there_of f None = refl
there_of f (Some x) = refl

in_number : (kept : Option InHalf) → ((half : InHalf) → kept ≡ Some half → half.v < 2 ^ 64) → number_of_value (option_map in_value kept) ≡ number_in kept
in_number None small = refl
in_number (Some kept) small = number_back kept.v (half kept.half) (small kept refl)

guard_number : (kept : Option ℕ) → ((term : ℕ) → kept ≡ Some term → term < 2 ^ 64) → number_of_value (option_map guard_value kept) ≡ unwrap_or kept 0
guard_number None small = refl
guard_number (Some term) small = guard_back term (small term refl)

last_read : (kept : Option Kept) → ((last : Kept) → kept ≡ Some last → (last.number < 2 ^ 64) × FitsOutcome last.outcome) → last_of_value (option_map client_value kept) ≡ kept
last_read None fits = refl
last_read (Some last) fits = let f = fits last refl in last_back last f.0 f.1

-- of a chain one of the two values is there, whichever it is
either_value : (double : Bool) (w : Option (List ℕ)) → value_of_two (cond double None w) (cond double w None) ≡ w
either_value true w = refl
either_value false None = refl
either_value false (Some value) = refl

chain_read : (e : EdgeId) (o : Option PrimeRec) → ((c : PrimeRec) → o ≡ Some c → (c.v < 2 ^ 64) × FitsCall c.id × (is_some (at_key edge_cmp e c.list) ≡ true)) → chain_of_value (value_of_two (single_at e o) (double_at e o)) ≡ option_map (λ c. (c.v, c.id)) o
chain_read e None fits = refl
chain_read e (Some c) fits =
    let f = fits c refl in
    ap chain_of_value (either_value c.double (prime_of e c)) ∙ of_half (at_key edge_cmp e c.list) f.2
  where
    of_half : (h : Option Half) → is_some h ≡ true → chain_of_value (option_map (prime_value c.v c.id) h) ≡ Some (c.v, c.id)
    of_half None there = absurd cc
    of_half (Some made) there = let f = fits c refl in chain_back c.v c.id made f.0 f.1

module _ (s : Setting) (p : Part) (m : Contents) (keeps : Keeps s p m) where
  pub tag_is : (v : Vid) (tag : ℕ) → FitsKey s.ids (Tag s.part v tag) → tag_is_in s m v tag ≡ contains_key p.tags (tag_at v tag)
  tag_is v tag fits = ap is_some (keeps.facts (Tag s.part v tag) fits refl) ∙ there_of row (get p.tags (tag_at v tag))

  pub out_is : (e : EdgeId) → FitsKey s.ids (OutEdge s.part e) → out_is_in s m e ≡ contains_key p.out e
  out_is e fits = ap is_some (keeps.facts (OutEdge s.part e) fits refl) ∙ there_of row (get p.out e)

  pub number_is : (e : EdgeId) → FitsKey s.ids (InEdge s.part e) → number_in_store s m e ≡ number_of p e
  number_is e fits = ap number_of_value (keeps.facts (InEdge s.part e) fits refl) ∙ in_number (get p.inn (in_key e)) (λ half is. (keeps.fits.inn (in_key e) half is).number)

  pub guard_is : (source : ℕ) → FitsKey s.ids (Guard s.part source) → guard_in_store s m source ≡ guard_of p source
  guard_is source fits = ap number_of_value (keeps.facts (Guard s.part source) fits refl) ∙ guard_number (get p.guards source) (λ term is. (keeps.fits.guards source term is).1)

  pub last_is : (client : ℕ) → FitsKey s.ids (Client s.part client) → last_in_store s m client ≡ get p.clients client
  last_is client fits = ap last_of_value (keeps.facts (Client s.part client) fits refl) ∙ last_read (get p.clients client) (λ last is. let f = keeps.fits.clients client last is in (f.1, f.2))

  pub chain_is : (e : EdgeId) → FitsKey s.ids (OutEdge s.part e) → chain_in_store s m e ≡ option_map (λ c. (c.v, c.id)) (chain_on p e)
  chain_is e fits =
      ap (λ (w : Option (List ℕ)). chain_of_value (value_of_two w (get m (key s.ids (DoublePrime s.part e))))) (keeps.facts (Prime s.part e) fits refl)
      ∙ ap (λ (w : Option (List ℕ)). chain_of_value (value_of_two (single_at e (chain_on p e)) w)) (keeps.facts (DoublePrime s.part e) fits refl)
      ∙ chain_read e (chain_on p e) (λ c on.
      let o = on_is p e c on in
      let f = keeps.fits.chains o.0 c o.1 in
      let h = at_key_in edge_cmp e c.list o.2 in
      (subst (λ (v : ℕ). v < 2 ^ 64) (sym f.named) f.number, f.call, ap is_some h.1))
