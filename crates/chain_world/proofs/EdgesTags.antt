-- The graph has the rows of tags that the parts have, as a part writes a tag or removes those of a vertex.
use Rattle.std.proofs.Common.{◌≡◌, inl, inr, ℕ, List, None, Some, Bool, cond, not, ap, sym, ◌∙◌, eqb-true}
use Rattle.std.specs.Prelude.{◌==◌}
use Rattle.std.specs.Ordering.{eq_by_cmp}
use Rattle.std.specs.FinMap.{FinMap, get, insert, retain_keys, get-retain_keys}
use Rattle.std.proofs.lemmas.Bool.{cases_Bool, eq-eqb, false_from_ne_true}
use Rattle.graph_model.specs.Keys.{vid_cmp, tag_cmp}
use Rattle.graph_model.specs.declared.val.Val.{Val}
use Rattle.graph_model.specs.declared.vid.Vid.{Vid}
use Rattle.graph_model.specs.declared.tag_key.TagKey.{TagKey}
use Rattle.graph_model.specs.Contents.{Contents, tag_written, tags_removed}
use Rattle.graph_model.proofs.KeyLemmas.{tags_total, tags_exact, vids_total, vids_exact}
use Rattle.maps.specs.Keys.{IsKeyOrder}
use Rattle.maps.proofs.Keys.{same_is, told_back}
use Rattle.maps.proofs.Updates.{get-with_at}
use Rattle.part_keys.specs.Routing.{part_of}
use Rattle.part_rules.specs.Part.{Part}
use Rattle.chain_world.specs.Invariant.Sound.{AreHalves}
use Rattle.chain_world.proofs.EdgesHalves.{same_out, same_inn}
use Rattle.chain_world.proofs.EdgesSet.{set_at, set_here, set_apart}

pub tag_keys : IsKeyOrder tag_cmp
tag_keys = record { total = tags_total; exact = tags_exact }

pub vid_keys : IsKeyOrder vid_cmp
vid_keys = record { total = vids_total; exact = vids_exact }

-- the rows of tags behind the removal of a vertex
gone_at : (tags : FinMap tag_cmp (List Val)) (test : TagKey → Bool) (t : TagKey) → get (retain_keys tags test) t ≡ cond (test t) (get tags t) None
gone_at tags test t = get-retain_keys tags test t (λ y e. ap test (sym (tags_exact t y e)))

module _ (parts : ℕ) (machine : ℕ → Part) (p : ℕ) (x : Part) (c : Contents) (are : AreHalves parts machine c) where
  -- a part that writes a tag of one of its vertices
  module _ (v : Vid) (tag : ℕ) (row : List Val) (home : part_of parts v ≡ p) where
    abbrev key : TagKey
    key = record { vid = v; tag = tag }

    tag_here : x.tags ≡ insert (machine p).tags key row → (t : TagKey) → get (tag_written c v tag row).verts t ≡ get (set_at machine p x (part_of parts t.vid)).tags t
    tag_here h t = get-with_at tag_keys c.verts key (Some row) t ∙ elim (cases_Bool (part_of parts t.vid == p)) [
      | inl here ↦
          (let same = eqb-true (part_of parts t.vid) p here in
          ap (cond (eq_by_cmp tag_cmp t key) (Some row)) (are.tags t ∙ ap (λ i. get (machine i).tags t) same)
          ∙ sym (get-with_at tag_keys (machine p).tags key (Some row) t) ∙ ap (λ m. get m t) (sym h) ∙ ap (λ (s : Part). get s.tags t) (sym (set_here machine p x _ same)))
      | inr apart ↦
          ap (λ b. cond b (Some row) (get c.verts t)) (false_from_ne_true (eq_by_cmp tag_cmp t key) (λ tied. let s = eq-eqb (part_of parts t.vid) p (ap (λ (k : TagKey). part_of parts k.vid) (same_is tag_keys t key tied) ∙ home) in cc))
          ∙ are.tags t ∙ ap (λ (s : Part). get s.tags t) (sym (set_apart machine p x _ apart))
    ]

    pub halves_tag : x.tags ≡ insert (machine p).tags key row → x.out ≡ (machine p).out → x.inn ≡ (machine p).inn → AreHalves parts (set_at machine p x) (tag_written c v tag row)
    halves_tag t o i = record { tags = tag_here t; out = same_out parts machine p x c are o; inn = same_inn parts machine p x c are i }

  -- a part that removes the tags of one of its vertices
  module _ (v : Vid) (home : part_of parts v ≡ p) where
    abbrev stays : TagKey → Bool
    stays key = not (eq_by_cmp vid_cmp key.vid v)

    kept_there : (t : TagKey) → get (tags_removed c v).verts t ≡ cond (stays t) (get c.verts t) None
    kept_there t = gone_at c.verts (λ key. not (eq_by_cmp vid_cmp v key.vid)) t ∙ ap (λ b. cond (not b) (get c.verts t) None) (told_back vid_keys v t.vid)

    gone_here : x.tags ≡ retain_keys (machine p).tags stays → (t : TagKey) → get (tags_removed c v).verts t ≡ get (set_at machine p x (part_of parts t.vid)).tags t
    gone_here h t = kept_there t ∙ elim (cases_Bool (part_of parts t.vid == p)) [
      | inl here ↦
          (let same = eqb-true (part_of parts t.vid) p here in
          ap (λ g. cond (stays t) g None) (are.tags t ∙ ap (λ i. get (machine i).tags t) same)
          ∙ sym (gone_at (machine p).tags stays t) ∙ ap (λ m. get m t) (sym h) ∙ ap (λ (s : Part). get s.tags t) (sym (set_here machine p x _ same)))
      | inr apart ↦
          ap (λ b. cond (not b) (get c.verts t) None) (false_from_ne_true (eq_by_cmp vid_cmp t.vid v) (λ tied. let s = eq-eqb (part_of parts t.vid) p (ap (part_of parts) (same_is vid_keys t.vid v tied) ∙ home) in cc))
          ∙ are.tags t ∙ ap (λ (s : Part). get s.tags t) (sym (set_apart machine p x _ apart))
    ]

    pub halves_gone : x.tags ≡ retain_keys (machine p).tags stays → x.out ≡ (machine p).out → x.inn ≡ (machine p).inn → AreHalves parts (set_at machine p x) (tags_removed c v)
    halves_gone t o i = record { tags = gone_here t; out = same_out parts machine p x c are o; inn = same_inn parts machine p x c are i }
