-- What a query finds in its part is what it finds in the graph.
use Rattle.std.proofs.Common.{◌≡◌, ℕ, ℤ, List, [], ◌∷◌, ◌++◌, Option, None, Some, Bool, true, false, cond, ◌&&◌, refl, ap, sym, ◌∙◌}
use Rattle.std.specs.Prelude.{if◌then◌else◌}
use Rattle.std.specs.Ordering.{eq_by_cmp}
use Rattle.std.specs.Option.{option_map}
use Rattle.std.specs.List.{filter_map, cons_option}
use Rattle.std.specs.FinMap.{FinMap, get, entries, get-entries, get-from_entries}
use Rattle.std.specs.Map.{keys_of}
use Rattle.graph_model.specs.Keys.{in_cmp, vid_cmp, edge_of}
use Rattle.graph_model.specs.declared.val.Val.{Val}
use Rattle.graph_model.specs.declared.vid.Vid.{Vid}
use Rattle.graph_model.specs.declared.in_key.InKey.{InKey}
use Rattle.graph_model.specs.declared.query.Query.{Query}
use Rattle.graph_model.specs.declared.query.Query.TheVariants.{Tag, Edge, Out, In, Both}
use Rattle.graph_model.specs.Contents.{Contents, row_of}
use Rattle.graph_model.specs.Views.{view_of, row_alone, found_out, found_in}
use Rattle.maps.specs.Keys.{has_key, AreApart}
use Rattle.maps.specs.Lists.{at_key}
use Rattle.maps.proofs.Keys.{same_is, apart_head, apart_tail}
use Rattle.maps.proofs.Pairs.{at_key_out}
use Rattle.maps.proofs.Found.{entries_apart}
use Rattle.maps.proofs.Entries.{read_same}
use Rattle.part_keys.specs.Routing.{part_of, part_of_query}
use Rattle.part_keys.specs.declared.in_half.InHalf.{InHalf}
use Rattle.part_rules.specs.Part.{Part}
use Rattle.part_rules.specs.View.{row_here, rows_here, view}
use Rattle.part_rules.proofs.FoldsAt.{edge_keys, in_keys}
use Rattle.chain_world.specs.Invariant.Sound.{AreHalves, row_at}
use Rattle.chain_world.proofs.EdgesTags.{vid_keys}

-- a key with its row, if there is one
abbrev with_row : InKey → Option (List Val) → Option (InKey × List Val)
with_row k row = option_map (λ r. (k, r)) row

-- the rows of in-halves at a key, where no key stands twice
rows_at : (es : List (InKey × InHalf)) → AreApart in_cmp (keys_of es) → (q : InKey) → at_key in_cmp q (filter_map row_here es) ≡ row_at (at_key in_cmp q es)
rows_at [] apart q = refl
rows_at (x ∷ es) apart q = by_row (rows_at es (apart_tail in_cmp x.0 (keys_of es) apart) q) (row_of x.1.half) refl
  where
    none_behind : eq_by_cmp in_cmp q x.0 ≡ true → at_key in_cmp q es ≡ None
    none_behind tied = at_key_out in_cmp q es (ap (λ k. has_key in_cmp k (keys_of es)) (same_is in_keys q x.0 tied) ∙ apart_head in_cmp x.0 (keys_of es) apart)

    by_row : at_key in_cmp q (filter_map row_here es) ≡ row_at (at_key in_cmp q es) → (row : Option (List Val)) → row_of x.1.half ≡ row → at_key in_cmp q (cons_option (with_row x.0 row) (filter_map row_here es)) ≡ row_at (cond (eq_by_cmp in_cmp q x.0) (Some x.1) (at_key in_cmp q es))
    by_row rest None none = elim (eq_by_cmp in_cmp q x.0) as (λ b. eq_by_cmp in_cmp q x.0 ≡ b → at_key in_cmp q (filter_map row_here es) ≡ row_at (cond b (Some x.1) (at_key in_cmp q es))) [
      | true ↦ λ tied. rest ∙ ap row_at (none_behind tied) ∙ sym none
      | false ↦ λ apart. rest
    ] refl
    by_row rest (Some r) some = elim (eq_by_cmp in_cmp q x.0) as (λ b. cond b (Some r) (at_key in_cmp q (filter_map row_here es)) ≡ row_at (cond b (Some x.1) (at_key in_cmp q es))) [
      | true ↦ sym some
      | false ↦ rest
    ]

-- the rows that a part has at a key
pub rows_here_at : (inn : FinMap in_cmp InHalf) (q : InKey) → get (rows_here inn) q ≡ row_at (get inn q)
rows_here_at inn q = get-from_entries in_keys.total (filter_map row_here (entries inn)) q ∙ rows_at (entries inn) (entries_apart in_keys inn) q ∙ ap row_at (sym (get-entries inn q))

unwanted : (b : Bool) (w : Bool) → b ≡ false → (b && w) ≡ false
unwanted false w h = refl
unwanted true w h = cc

module _ (parts : ℕ) (machine : ℕ → Part) (c : Contents) (are : AreHalves parts machine c) (p : ℕ) where
  -- the out-edges of a vertex of part p
  outs_same : (v : Vid) (types : List ℤ) → part_of parts v ≡ p → filter_map (found_out v types) (entries c.out) ≡ filter_map (found_out v types) (entries (machine p).out)
  outs_same v types home = read_same edge_keys (found_out v types) (λ e. eq_by_cmp vid_cmp v e.src) c.out (machine p).out
      (λ e other. ap (λ b. if b then Some (record { edge = Some e.0; inward = false; row = e.1 }) else None) (unwanted (eq_by_cmp vid_cmp v e.0.src) _ other))
      (λ e own. are.out e ∙ ap (λ i. get (machine i).out e) (ap (part_of parts) (sym (same_is vid_keys v e.src own)) ∙ home))

  -- the in-edges
  ins_same : (v : Vid) (types : List ℤ) → part_of parts v ≡ p → filter_map (found_in v types) (entries c.inn) ≡ filter_map (found_in v types) (entries (rows_here (machine p).inn))
  ins_same v types home = read_same in_keys (found_in v types) (λ e. eq_by_cmp vid_cmp v e.dst) c.inn (rows_here (machine p).inn)
      (λ e other. ap (λ b. if b then Some (record { edge = Some (edge_of e.0); inward = true; row = e.1 }) else None) (unwanted (eq_by_cmp vid_cmp v e.0.dst) _ other))
      (λ e own. are.inn e ∙ ap (λ i. row_at (get (machine i).inn e)) (ap (part_of parts) (sym (same_is vid_keys v e.dst own)) ∙ home) ∙ sym (rows_here_at (machine p).inn e))

  -- what a query of part p finds there is what it finds in the graph
  pub same_view : (q : Query) → part_of_query parts q ≡ p → view_of q c ≡ view q (machine p)
  same_view (Tag v tag) home = ap (row_alone None) (are.tags (record { vid = v; tag = tag }) ∙ ap (λ i. get (machine i).tags (record { vid = v; tag = tag })) home)
  same_view (Edge e) home = ap (row_alone (Some e)) (are.out e ∙ ap (λ i. get (machine i).out e) home)
  same_view (Out v types) home = outs_same v types home
  same_view (In v types) home = ins_same v types home
  same_view (Both v types) home = ap (λ l. l ++ filter_map (found_out v types) (entries c.out)) (ins_same v types home) ∙ ap (λ l. filter_map (found_in v types) (entries (rows_here (machine p).inn)) ++ l) (outs_same v types home)
