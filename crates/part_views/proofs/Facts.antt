-- The pairs of a part's store are the facts of its state: its out-halves and in-halves, in their order.
use Rattle.std.proofs.Common.{◌≡◌, ℕ, List, [], Option, Some, None, T, refl, sym, ap, ◌∙◌}
use Rattle.std.specs.FinMap.{FinMap, get, entries, entries_sorted, get-from_entries, from_sorted, get-from_sorted, entries-from_sorted}
use Rattle.std.specs.FinMap.Entries.{is_sorted}
use Rattle.std.specs.List.{filter_map}
use Rattle.std.specs.Option.{option_map}
use Rattle.std.specs.Result.{result_ok}
use Rattle.std.proofs.lemmas.List.{append-nil}
use Rattle.std.proofs.lemmas.Option.{same_Some}
use Rattle.std.specs.declared.cmp.Ordering.TheVariants.{Less}
use Rattle.byte_fields.specs.Order.{bytes_cmp}
use Rattle.byte_fields.specs.Reading.{number_at, both_at}
use Rattle.byte_fields.proofs.Formats.{number_format, both_format}
use Rattle.byte_fields.proofs.Numbers.{wide8}
use Rattle.graph_bytes.specs.Fits.{FitsRow}
use Rattle.graph_bytes.specs.Reading.{row_at, half_at}
use Rattle.graph_bytes.specs.Spelling.{row}
use Rattle.graph_bytes.proofs.ValueFormats.{row_format, half_format}
use Rattle.graph_model.specs.Contents.{row_of}
use Rattle.graph_model.specs.Keys.{in_cmp, in_key, edge_of}
use Rattle.graph_model.specs.declared.edge_id.EdgeId.{EdgeId}
use Rattle.graph_model.specs.declared.in_key.InKey.{InKey}
use Rattle.graph_model.specs.declared.val.Val.{Val}
use Rattle.graph_model.proofs.KeyLemmas.{edge_keys, in_keys}
use Rattle.kv_part.specs.Store.{Contents}
use Rattle.maps.proofs.Found.{entries_got}
use Rattle.maps.proofs.Updates.{same_by_keys}
use Rattle.part_keys.specs.declared.in_half.InHalf.{InHalf}
use Rattle.part_keys.specs.declared.key.Key.{Key}
use Rattle.part_keys.specs.declared.key.Key.TheVariants.{OutEdge, InEdge}
use Rattle.part_keys.specs.KeyOrder.{part_in}
use Rattle.part_keys.specs.Keys.{key, FitsKey}
use Rattle.part_keys.proofs.KeyOrders.{out_order, in_order}
use Rattle.part_rules.specs.Part.{Part}
use Rattle.part_rules.specs.View.{row_here, rows_here}
use Rattle.part_store.specs.Keeps.{Keeps, FitsIn}
use Rattle.part_store.specs.Reads.{read_of}
use Rattle.part_store.specs.Settings.{IsSetting}
use Rattle.part_store.specs.Values.{in_value}
use Rattle.part_store.specs.declared.setting.Setting.{Setting}
use Rattle.part_store.proofs.SameKeys.{bytes_keys, key_again}
use Rattle.part_views.specs.Reading.{key_in, row_in, half_in, numbered, out_by, out_of, in_by, in_of}
use Rattle.part_views.proofs.InOrder.{Reads, read_sorted, entries_read}

-- a row is read back
pub row_back : (vals : List Val) → FitsRow vals → row_in (row vals) ≡ Some vals
row_back vals fits = ap (λ (b : List ℕ). read_of (row_at b)) (sym (append-nil (row vals))) ∙ ap read_of (row_format.again vals [] fits)

-- and an in-half
half_back : (s : Setting) (k : InKey) (half : InHalf) → FitsIn s k half → half_in (in_value half) ≡ Some half
half_back s k half fits =
    ap (λ (b : List ℕ). option_map numbered (read_of (both_at (number_at 8) half_at b))) (sym (append-nil (in_value half)))
    ∙ ap (λ r. option_map numbered (read_of r)) ((both_format (number_format 8 wide8) half_format).again (half.v, half.half) [] (fits.number, fits.value))

module _ (s : Setting) (is : IsSetting s) (p : Part) (m : Contents) (keeps : Keeps s p m) where
  key_back : (k : Key) → FitsKey s.ids k → key_in s.ids (key s.ids k) ≡ Some k
  key_back k fits = ap result_ok (key_again s.ids is.kind k fits)

  -- ---- out-halves

  abbrev pub out_place : EdgeId → List ℕ
  out_place e = key s.ids (OutEdge s.part e)

  out_there : (e : EdgeId) (value : List ℕ) (o : Option (List Val)) → get p.out e ≡ o → option_map row o ≡ Some value → (k : EdgeId × List Val) → option_map (λ r. (e, r)) (row_in value) ≡ Some k → (get p.out k.0 ≡ Some k.1) × (k.0 ≡ e)
  out_there e value None there kept k read = absurd (cc)
  out_there e value (Some vals) there kept k read =
      let spelled : row vals ≡ value = same_Some (row vals) value kept in
      let again : row_in value ≡ Some vals = ap row_in (sym spelled) ∙ row_back vals (keeps.fits.out e vals there).1 in
      let k-is : (e, vals) ≡ k = same_Some (e, vals) k (sym (ap (option_map (λ (r : List Val). (e, r))) again) ∙ read) in
      (ap (λ (j : EdgeId × List Val). get p.out j.0) (sym k-is) ∙ there ∙ ap (λ (j : EdgeId × List Val). Some j.1) k-is, ap (λ (j : EdgeId × List Val). j.0) (sym k-is))

  out_known : (l : Key) → FitsKey s.ids l → part_in l ≡ s.part → (bytes value : List ℕ) → bytes ≡ key s.ids l → get m bytes ≡ Some value
      → (k : EdgeId × List Val) → out_by (Some l) (row_in value) ≡ Some k → (get p.out k.0 ≡ Some k.1) × (bytes ≡ out_place k.0)
  out_known (OutEdge q e) fits of bytes value bytes-is there k read =
      let kept : option_map row (get p.out e) ≡ Some value = sym (keeps.facts (OutEdge q e) fits of) ∙ ap (get m) (sym bytes-is) ∙ there in
      let t = out_there e value (get p.out e) refl kept k read in
      (t.0, bytes-is ∙ ap (λ (r : ℕ). key s.ids (OutEdge r e)) of ∙ ap out_place (sym t.1))
  out_known _ fits of bytes value bytes-is there k read = absurd (cc)

  out_sound : (e : List ℕ × List ℕ) → get m e.0 ≡ Some e.1 → (k : EdgeId × List Val) → out_of s.ids e ≡ Some k → (get p.out k.0 ≡ Some k.1) × (e.0 ≡ out_place k.0)
  out_sound e there k read =
      let l = keeps.only e.0 e.1 there in
      let key-is : key_in s.ids e.0 ≡ Some l.0 = ap (key_in s.ids) l.3 ∙ key_back l.0 l.1 in
      out_known l.0 l.1 l.2 e.0 e.1 l.3 there k (ap (λ (j : Option Key). out_by j (row_in e.1)) (sym key-is) ∙ read)

  out_complete : (e : EdgeId) (vals : List Val) → get p.out e ≡ Some vals → (w : List ℕ) × (get m (out_place e) ≡ Some w) × (out_of s.ids (out_place e, w) ≡ Some (e, vals))
  out_complete e vals there =
      let fits = keeps.fits.out e vals there in (
        row vals,
        keeps.facts (OutEdge s.part e) fits.0 refl ∙ ap (option_map row) there,
        ap (λ (j : Option Key). out_by j (row_in (row vals))) (key_back (OutEdge s.part e) fits.0) ∙ ap (option_map (λ (r : List Val). (e, r))) (row_back vals fits.1),
      )

  pub out_reads : Reads m p.out (out_of s.ids) out_place
  out_reads = record {
    sound = out_sound;
    complete = out_complete;
    order = λ e f x y e-is f-is. out_order s.ids is.kind s.part e f (keeps.fits.out e x e-is).0 (keeps.fits.out f y f-is).0;
  }

  -- the out-halves, as the store has them
  pub outs_are : filter_map (out_of s.ids) (entries m) ≡ entries p.out
  outs_are = entries_read bytes_keys edge_keys m p.out (out_of s.ids) out_place out_reads

  -- ---- in-halves

  abbrev pub in_place : InKey → List ℕ
  in_place k = key s.ids (InEdge s.part (edge_of k))

  in_there : (e : EdgeId) (value : List ℕ) (o : Option InHalf) → get p.inn (in_key e) ≡ o → option_map in_value o ≡ Some value → (k : InKey × InHalf) → option_map (λ h. (in_key e, h)) (half_in value) ≡ Some k → (get p.inn k.0 ≡ Some k.1) × (k.0 ≡ in_key e)
  in_there e value None there kept k read = absurd (cc)
  in_there e value (Some half) there kept k read =
      let spelled : in_value half ≡ value = same_Some (in_value half) value kept in
      let again : half_in value ≡ Some half = ap half_in (sym spelled) ∙ half_back s (in_key e) half (keeps.fits.inn (in_key e) half there) in
      let k-is : (in_key e, half) ≡ k = same_Some (in_key e, half) k (sym (ap (option_map (λ (h : InHalf). (in_key e, h))) again) ∙ read) in
      (ap (λ (j : InKey × InHalf). get p.inn j.0) (sym k-is) ∙ there ∙ ap (λ (j : InKey × InHalf). Some j.1) k-is, ap (λ (j : InKey × InHalf). j.0) (sym k-is))

  in_known : (l : Key) → FitsKey s.ids l → part_in l ≡ s.part → (bytes value : List ℕ) → bytes ≡ key s.ids l → get m bytes ≡ Some value
      → (k : InKey × InHalf) → in_by (Some l) (half_in value) ≡ Some k → (get p.inn k.0 ≡ Some k.1) × (bytes ≡ in_place k.0)
  in_known (InEdge q e) fits of bytes value bytes-is there k read =
      let kept : option_map in_value (get p.inn (in_key e)) ≡ Some value = sym (keeps.facts (InEdge q e) fits of) ∙ ap (get m) (sym bytes-is) ∙ there in
      let t = in_there e value (get p.inn (in_key e)) refl kept k read in
      (t.0, bytes-is ∙ ap (λ (r : ℕ). key s.ids (InEdge r e)) of ∙ ap in_place (sym t.1))
  in_known _ fits of bytes value bytes-is there k read = absurd (cc)

  pub in_sound : (e : List ℕ × List ℕ) → get m e.0 ≡ Some e.1 → (k : InKey × InHalf) → in_of s.ids e ≡ Some k → (get p.inn k.0 ≡ Some k.1) × (e.0 ≡ in_place k.0)
  in_sound e there k read =
      let l = keeps.only e.0 e.1 there in
      let key-is : key_in s.ids e.0 ≡ Some l.0 = ap (key_in s.ids) l.3 ∙ key_back l.0 l.1 in
      in_known l.0 l.1 l.2 e.0 e.1 l.3 there k (ap (λ (j : Option Key). in_by j (half_in e.1)) (sym key-is) ∙ read)

  in_complete : (k : InKey) (half : InHalf) → get p.inn k ≡ Some half → (w : List ℕ) × (get m (in_place k) ≡ Some w) × (in_of s.ids (in_place k, w) ≡ Some (k, half))
  in_complete k half there =
      let fits = keeps.fits.inn k half there in (
        in_value half,
        keeps.facts (InEdge s.part (edge_of k)) fits.place refl ∙ ap (λ (j : InKey). option_map in_value (get p.inn j)) (sym fits.is) ∙ ap (option_map in_value) there,
        ap (λ (j : Option Key). in_by j (half_in (in_value half))) (key_back (InEdge s.part (edge_of k)) fits.place)
            ∙ ap (option_map (λ (h : InHalf). (in_key (edge_of k), h))) (half_back s k half fits)
            ∙ ap (λ (j : InKey). Some (j, half)) (sym fits.is),
      )

  in_ordered : (k l : InKey) (x y : InHalf) → get p.inn k ≡ Some x → get p.inn l ≡ Some y → bytes_cmp (in_place k) (in_place l) ≡ in_cmp k l
  in_ordered k l x y k-is l-is =
      let a = keeps.fits.inn k x k-is in
      let b = keeps.fits.inn l y l-is in
      in_order s.ids is.kind s.part (edge_of k) (edge_of l) a.place b.place
      ∙ ap (λ (j : InKey). in_cmp j (in_key (edge_of l))) (sym a.is) ∙ ap (in_cmp k) (sym b.is)

  pub in_reads : Reads m p.inn (in_of s.ids) in_place
  in_reads = record { sound = in_sound; complete = in_complete; order = in_ordered }

  -- the in-halves, as the store has them
  pub ins_are : filter_map (in_of s.ids) (entries m) ≡ entries p.inn
  ins_are = entries_read bytes_keys in_keys m p.inn (in_of s.ids) in_place in_reads

-- ---- the in-halves that are here

here_key : (j : InKey) (o : Option (List Val)) (k : InKey × List Val) → option_map (λ r. (j, r)) o ≡ Some k → k.0 ≡ j
here_key j None k e = absurd (cc)
here_key j (Some r) k e = ap (λ (x : InKey × List Val). x.0) (sym (same_Some (j, r) k e))

-- the key stays
pub row_here_key : (x : InKey × InHalf) (k : InKey × List Val) → row_here x ≡ Some k → k.0 ≡ x.0
row_here_key x k e = here_key x.0 (row_of x.1.half) k e

here_rises : (inn : FinMap in_cmp InHalf) (a b : InKey × InHalf) (k l : InKey × List Val) → get inn a.0 ≡ Some a.1 → get inn b.0 ≡ Some b.1 → row_here a ≡ Some k → row_here b ≡ Some l → in_cmp a.0 b.0 ≡ Less → in_cmp k.0 l.0 ≡ Less
here_rises inn a b k l _ _ a-is b-is under = ap (λ j. in_cmp j l.0) (row_here_key a k a-is) ∙ ap (in_cmp a.0) (row_here_key b l b-is) ∙ under

-- their rows, in their order
pub rows_are : (inn : FinMap in_cmp InHalf) → entries (rows_here inn) ≡ filter_map row_here (entries inn)
rows_are inn =
    let es = filter_map row_here (entries inn) in
    let sorted : T (is_sorted in_cmp es) = read_sorted in_cmp in_cmp row_here (λ e. get inn e.0 ≡ Some e.1) (here_rises inn) (entries inn) (entries_got in_keys inn) (entries_sorted inn) in
    ap entries (same_by_keys in_keys (rows_here inn) (from_sorted es) (λ q. get-from_entries in_keys.total es q ∙ sym (get-from_sorted in_cmp es q sorted))) ∙ entries-from_sorted in_cmp es sorted
