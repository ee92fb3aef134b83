-- Each tag that a vertex has is read in the store.
use Rattle.std.proofs.Common.{◌≡◌, ℕ, ◌<◌, ◌^◌, List, [], ◌∷◌, ◌++◌, Option, None, Some, Bool, true, false, cond, nat_eq, filter, length, refl, ap, sym, ◌∙◌}
use Rattle.std.specs.Prelude.{◌||◌, ◌&&◌}
use Rattle.std.specs.FinMap.{get, entries, get-entries, contains_key}
use Rattle.std.specs.FinMap.Entries.{find}
use Rattle.std.specs.List.{cons_option, filter_map, starts_with}
use lib.Pointwise.{pointwise}
use Rattle.std.specs.Option.{unwrap_or}
use Rattle.std.specs.Ordering.{nat_cmp, eq_by_cmp}
use Rattle.std.proofs.lemmas.Bool.{eq-eqb}
use Rattle.std.proofs.lemmas.List.{append-nil, take_at, drop_at}
use Rattle.byte_fields.specs.Fields.{number}
use Rattle.byte_fields.specs.Order.{bytes_cmp}
use Rattle.byte_fields.specs.Reading.{number_at}
use Rattle.byte_fields.proofs.Numbers.{number_again}
use Rattle.graph_model.specs.declared.vid.Vid.{Vid}
use Rattle.kv_part.specs.Store.{Contents}
use Rattle.maps.specs.Keys.{has_key}
use Rattle.maps.proofs.Filling.{or_right}
use Rattle.maps.proofs.Keys.{nat_keys, same_itself, same_is}
use Rattle.maps.proofs.Pairs.{some_of}
use Rattle.part_keys.specs.declared.key.Key.TheVariants.{Tag}
use Rattle.part_keys.specs.KeyOrder.{tag_at}
use Rattle.part_keys.specs.Keys.{key, FitsKey}
use Rattle.part_rules.specs.Part.{Part}
use Rattle.part_store.specs.Keeps.{Keeps}
use Rattle.part_store.specs.Reads.{read_of, tag_prefix, tag_behind, tags_in_store}
use Rattle.part_store.specs.declared.setting.Setting.{Setting}
use Rattle.part_store.proofs.Reading.{tag_is}
use Rattle.part_store.proofs.SameKeys.{bytes_keys}

-- bytes are themselves, byte by byte
itself : (a : List ℕ) → pointwise nat_eq a a ≡ true
itself [] = refl
itself (x ∷ a) = ap (λ (b : Bool). b && pointwise nat_eq a a) (eq-eqb x x refl) ∙ itself a

-- what has a prefix begins with it
begins : (prefix rest : List ℕ) → starts_with nat_eq (prefix ++ rest) prefix ≡ true
begins prefix rest = ap (pointwise nat_eq prefix) (take_at prefix rest (length prefix) refl) ∙ itself prefix

more_tags : (o : Option ℕ) (tags : List ℕ) (tag : ℕ) → has_key nat_cmp tag tags ≡ true → has_key nat_cmp tag (cons_option o tags) ≡ true
more_tags None tags tag h = h
more_tags (Some u) tags tag h = or_right (eq_by_cmp nat_cmp tag u) (has_key nat_cmp tag tags) h

first_tag : (o : Option ℕ) (tags : List ℕ) (tag : ℕ) → o ≡ Some tag → has_key nat_cmp tag (cons_option o tags) ≡ true
first_tag None tags tag is = absurd cc
first_tag (Some u) tags tag is = ap (λ (b : Bool). b || has_key nat_cmp tag tags) (ap (λ (x : Option ℕ). eq_by_cmp nat_cmp tag (unwrap_or x 0)) is ∙ same_itself nat_keys tag)

module _ (prefix : List ℕ) (read : List ℕ × List ℕ → Option ℕ) where
  -- a pair whose key begins with the prefix is read
  among : (es : List (List ℕ × List ℕ)) (bytes value : List ℕ) (tag : ℕ) → find bytes_cmp bytes es ≡ Some value → starts_with nat_eq bytes prefix ≡ true → ((w : List ℕ) → read (bytes, w) ≡ Some tag)
      → has_key nat_cmp tag (filter_map read (filter (λ pair. starts_with nat_eq pair.0 prefix) es)) ≡ true
  among [] bytes value tag there begun reads = absurd cc
  among (e ∷ es) bytes value tag there begun reads = elim (eq_by_cmp bytes_cmp bytes e.0) as (λ b. eq_by_cmp bytes_cmp bytes e.0 ≡ b → cond b (Some e.1) (find bytes_cmp bytes es) ≡ Some value → has_key nat_cmp tag (filter_map read (cond (starts_with nat_eq e.0 prefix) (e ∷ filter (λ pair. starts_with nat_eq pair.0 prefix) es) (filter (λ pair. starts_with nat_eq pair.0 prefix) es))) ≡ true) [
    | true ↦ λ same _.
        let is : bytes ≡ e.0 = same_is bytes_keys bytes e.0 same in
        let here : starts_with nat_eq e.0 prefix ≡ true = ap (λ (x : List ℕ). starts_with nat_eq x prefix) (sym is) ∙ begun in
        let read-is : read e ≡ Some tag = ap (λ (x : List ℕ). read (x, e.1)) (sym is) ∙ reads e.1 in
        ap (λ (b : Bool). has_key nat_cmp tag (filter_map read (cond b (e ∷ filter (λ pair. starts_with nat_eq pair.0 prefix) es) (filter (λ pair. starts_with nat_eq pair.0 prefix) es)))) here
        ∙ first_tag (read e) (filter_map read (filter (λ pair. starts_with nat_eq pair.0 prefix) es)) tag read-is
    | false ↦ λ _ later. kept (starts_with nat_eq e.0 prefix) (among es bytes value tag later begun reads)
  ] refl there
    where
      kept : (b : Bool) → has_key nat_cmp tag (filter_map read (filter (λ pair. starts_with nat_eq pair.0 prefix) es)) ≡ true → has_key nat_cmp tag (filter_map read (cond b (e ∷ filter (λ pair. starts_with nat_eq pair.0 prefix) es) (filter (λ pair. starts_with nat_eq pair.0 prefix) es))) ≡ true
      kept true h = more_tags (read e) (filter_map read (filter (λ pair. starts_with nat_eq pair.0 prefix) es)) tag h
      kept false h = h

module _ (s : Setting) (p : Part) (m : Contents) (keeps : Keeps s p m) where
  tag_read : (v : Vid) (tag : ℕ) → tag < 2 ^ 32 → (w : List ℕ) → tag_behind (length (tag_prefix s v)) (key s.ids (Tag s.part v tag), w) ≡ Some tag
  tag_read v tag small w =
      ap (λ (bytes : List ℕ). read_of (number_at 4 bytes)) (drop_at (tag_prefix s v) (number 4 tag) (length (tag_prefix s v)) refl ∙ sym (append-nil (number 4 tag)))
      ∙ ap read_of (number_again 4 tag [] small)

  pub tags_all : (v : Vid) (tag : ℕ) → FitsKey s.ids (Tag s.part v tag) → contains_key p.tags (tag_at v tag) ≡ true → has_key nat_cmp tag (tags_in_store s m v) ≡ true
  tags_all v tag fits here =
      let value = some_of (get m (key s.ids (Tag s.part v tag))) (tag_is s p m keeps v tag fits ∙ here) in
      among (tag_prefix s v) (tag_behind (length (tag_prefix s v))) (entries m) (key s.ids (Tag s.part v tag)) value.0 tag
      (sym (get-entries m (key s.ids (Tag s.part v tag))) ∙ value.1) (begins (tag_prefix s v) (number 4 tag)) (tag_read v tag fits.2)
