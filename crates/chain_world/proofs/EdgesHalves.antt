-- The graph has the halves that the parts have, as a part writes: out-halves, in-halves, tags.
use Rattle.std.proofs.Common.{◌≡◌, inl, inr, ℕ, List, true, ap, sym, ◌∙◌, eqb-true}
use Rattle.std.specs.Prelude.{◌==◌}
use Rattle.std.specs.FinMap.{get}
use Rattle.std.specs.Option.{option_map, unwrap_or}
use Rattle.std.proofs.lemmas.Bool.{cases_Bool, eq-eqb, false_from_ne_true}
use Rattle.graph_model.specs.Keys.{edge_cmp}
use Rattle.graph_model.specs.declared.half.Half.{Half}
use Rattle.graph_model.specs.declared.edge_id.EdgeId.{EdgeId}
use Rattle.graph_model.specs.declared.in_key.InKey.{InKey}
use Rattle.graph_model.specs.declared.tag_key.TagKey.{TagKey}
use Rattle.graph_model.specs.Contents.{Contents, row_of, out_written}
use Rattle.maps.specs.Lists.{at_key}
use Rattle.maps.proofs.Pairs.{at_key_out}
use Rattle.part_keys.specs.Routing.{part_of}
use Rattle.part_rules.specs.Part.{Part}
use Rattle.part_rules.specs.Machine as table
use Rattle.part_rules.proofs.FoldsAt.{out_at}
use Rattle.chain_world.specs.Course.{has_edge}
use Rattle.chain_world.specs.Invariant.Sound.{AreHalves, row_at}
use Rattle.chain_world.proofs.EdgesSet.{set_at, set_here, set_apart, set_same}

module _ (parts : ℕ) (machine : ℕ → Part) (p : ℕ) (x : Part) (c : Contents) (are : AreHalves parts machine c) where
  pub same_tags : x.tags ≡ (machine p).tags → (t : TagKey) → get c.verts t ≡ get (set_at machine p x (part_of parts t.vid)).tags t
  same_tags e t = are.tags t ∙ sym (set_same machine p x (λ s. get s.tags t) (ap (λ m. get m t) e) (part_of parts t.vid))

  pub same_out : x.out ≡ (machine p).out → (e : EdgeId) → get c.out e ≡ get (set_at machine p x (part_of parts e.src)).out e
  same_out h e = are.out e ∙ sym (set_same machine p x (λ s. get s.out e) (ap (λ m. get m e) h) (part_of parts e.src))

  pub same_inn : x.inn ≡ (machine p).inn → (q : InKey) → get c.inn q ≡ row_at (get (set_at machine p x (part_of parts q.dst)).inn q)
  same_inn h q = are.inn q ∙ sym (set_same machine p x (λ s. row_at (get s.inn q)) (ap (λ m. row_at (get m q)) h) (part_of parts q.dst))

  -- a part whose rows and halves stay
  pub halves_same : x.tags ≡ (machine p).tags → x.out ≡ (machine p).out → x.inn ≡ (machine p).inn → AreHalves parts (set_at machine p x) c
  halves_same t o i = record { tags = same_tags t; out = same_out o; inn = same_inn i }

  -- a part that writes the out-halves of a list of its edges
  module _ (list : List (EdgeId × Half)) (routed : (e : EdgeId) → has_edge list e ≡ true → part_of parts e.src ≡ p) where
    out_here : x.out ≡ table.out_written (machine p).out list → (e : EdgeId) → get (out_written c list).out e ≡ get (set_at machine p x (part_of parts e.src)).out e
    out_here h e = out_at c.out list e ∙ elim (cases_Bool (part_of parts e.src == p)) [
      | inl here ↦
          (let same = eqb-true (part_of parts e.src) p here in
          ap (unwrap_or (option_map row_of (at_key edge_cmp e list))) (are.out e ∙ ap (λ q. get (machine q).out e) same)
          ∙ sym (out_at (machine p).out list e) ∙ ap (λ m. get m e) (sym h) ∙ ap (λ (s : Part). get s.out e) (sym (set_here machine p x _ same)))
      | inr apart ↦
          ap (λ w. unwrap_or (option_map row_of w) (get c.out e)) (at_key_out edge_cmp e list (false_from_ne_true (has_edge list e) (λ on. let s = eq-eqb (part_of parts e.src) p (routed e on) in cc)))
          ∙ are.out e ∙ ap (λ (s : Part). get s.out e) (sym (set_apart machine p x _ apart))
    ]

    pub halves_out : x.tags ≡ (machine p).tags → x.inn ≡ (machine p).inn → x.out ≡ table.out_written (machine p).out list → AreHalves parts (set_at machine p x) (out_written c list)
    halves_out t i o = record { tags = same_tags t; out = out_here o; inn = same_inn i }
