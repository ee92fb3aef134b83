-- What the store tells of the edges of a list, one after another.
use Rattle.std.proofs.Common.{◌≡◌, ℕ, List, ◌∷◌, Option, None, Some, Bool, refl, ap, sym, ◌∙◌}
use Rattle.std.specs.Prelude.{nat_lt, not, ◌&&◌}
use Rattle.std.specs.Option.{option_map, option_or}
use Rattle.graph_model.specs.Edges.{edges_in}
use Rattle.graph_model.specs.declared.call_id.CallId.{CallId}
use Rattle.graph_model.specs.declared.edge_id.EdgeId.{EdgeId}
use Rattle.graph_model.specs.declared.half.Half.{Half}
use Rattle.kv_part.specs.Store.{Contents}
use Rattle.part_keys.specs.Keys.{FitsKey}
use Rattle.part_keys.specs.declared.chain.PrimeRec.{PrimeRec}
use Rattle.part_keys.specs.declared.key.Key.TheVariants.{OutEdge, InEdge}
use Rattle.part_rules.specs.Part.{Part, chain_on, chain_on_any, is_fresh}
use Rattle.part_store.specs.Keeps.{Keeps}
use Rattle.part_store.specs.Reads.{chain_in_store}
use Rattle.part_store.specs.declared.setting.Setting.{Setting}
use Rattle.part_store.proofs.Reading.{chain_is, out_is, number_is}
use Rattle.part_machine.specs.Edges.{is_taken, is_left, is_lower, id_of}

none_there : (o : Option PrimeRec) → ◌≡◌ {A = Option (ℕ × CallId)} None (option_map (λ c. (c.v, c.id)) o) → o ≡ None
none_there None h = refl
none_there (Some c) h = absurd cc

named_there : (o : Option PrimeRec) (more : Option PrimeRec) (v : ℕ) (id : CallId) → ◌≡◌ {A = Option (ℕ × CallId)} (Some (v, id)) (option_map (λ c. (c.v, c.id)) o) → Some id ≡ option_map id_of (option_or o more)
named_there None more v id h = absurd cc
named_there (Some c) more v id h = ap (option_map (λ x. x.1)) h

module _ (s : Setting) (p : Part) (m : Contents) (keeps : Keeps s p m) where
  -- an edge without a chain, and one with a chain
  pub skip_edge : (x : EdgeId × Half) (left rest list : List (EdgeId × Half)) → left ≡ x ∷ rest → None ≡ chain_in_store s m x.0 → FitsKey s.ids (OutEdge s.part x.0)
      → chain_on_any p (edges_in left) ≡ chain_on_any p (edges_in list) → chain_on_any p (edges_in rest) ≡ chain_on_any p (edges_in list)
  skip_edge x left rest list is none fits before =
      sym (ap (λ (l : List (EdgeId × Half)). chain_on_any p (edges_in l)) is ∙ ap (λ (o : Option PrimeRec). option_or o (chain_on_any p (edges_in rest))) (none_there (chain_on p x.0) (none ∙ chain_is s p m keeps x.0 fits))) ∙ before

  pub stop_edge : (x : EdgeId × Half) (left rest list : List (EdgeId × Half)) (v : ℕ) (id : CallId) → left ≡ x ∷ rest → Some (v, id) ≡ chain_in_store s m x.0 → FitsKey s.ids (OutEdge s.part x.0)
      → chain_on_any p (edges_in left) ≡ chain_on_any p (edges_in list) → Some id ≡ option_map id_of (chain_on_any p (edges_in list))
  stop_edge x left rest list v id is there fits before =
      named_there (chain_on p x.0) (chain_on_any p (edges_in rest)) v id (there ∙ chain_is s p m keeps x.0 fits)
      ∙ sym (ap (λ (l : List (EdgeId × Half)). option_map id_of (chain_on_any p (edges_in l))) is) ∙ ap (option_map id_of) before

  -- the two tests of an edge that a Prime may take agree
  pub taken_left : (absent : Bool) (x : EdgeId × Half) → FitsKey s.ids (OutEdge s.part x.0) → is_taken p absent x ≡ is_left s m absent x
  taken_left absent x fits = ap (λ b. not (absent && b)) (sym (out_is s p m keeps x.0 fits))

  -- and those of an in-half that a Remote may write
  pub fresh_lower : (v : ℕ) (x : EdgeId × Half) → FitsKey s.ids (InEdge s.part x.0) → is_fresh p v x ≡ is_lower s m v x
  fresh_lower v x fits = ap (λ n. nat_lt n v) (sym (number_is s p m keeps x.0 fits))
