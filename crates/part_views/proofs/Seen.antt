-- What is read of a store for a query is what the query finds in the state that the store keeps.
use Rattle.std.proofs.Common.{◌≡◌, ℕ, ℤ, List, ◌++◌, Option, Some, None, Result, Ok, Err, Bool, true, false, nat_eq, refl, sym, ap, ◌∙◌}
use Rattle.std.specs.Prelude.{◌&&◌, if◌then◌else◌, IfOk}
use Rattle.std.specs.FinMap.{get, entries}
use Rattle.std.specs.List.{filter_map, starts_with, list_any}
use Rattle.std.specs.Option.{option_map, option_and_then}
use Rattle.std.specs.Ordering.{eq_by_cmp, int_eq}
use Rattle.graph_bytes.specs.Fits.{FitsRow}
use Rattle.graph_bytes.specs.Spelling.{row}
use Rattle.graph_model.specs.Keys.{vid_cmp, edge_of}
use Rattle.graph_model.specs.Views.{row_alone, found_out, found_in}
use Rattle.graph_model.specs.declared.found.Found.{Found}
use Rattle.graph_model.specs.declared.in_key.InKey.{InKey}
use Rattle.graph_model.specs.declared.query.Query.{Query}
use Rattle.graph_model.specs.declared.query.Query.TheVariants.{Tag, Edge, Out, In, Both}
use Rattle.graph_model.specs.declared.val.Val.{Val}
use Rattle.graph_model.specs.declared.vid.Vid.{Vid}
use Rattle.graph_model.proofs.KeyLemmas.{vid_keys}
use Rattle.kv_part.specs.Store.{Contents}
use Rattle.maps.proofs.Found.{entries_got}
use Rattle.maps.proofs.Keys.{same_is}
use Rattle.part_keys.specs.declared.key.Key.TheVariants as keys
use Rattle.part_keys.specs.KeyOrder.{tag_at}
use Rattle.part_keys.specs.Keys.{key, turned}
use Rattle.part_rules.specs.Part.{Part}
use Rattle.part_rules.specs.View.{row_here, rows_here, view}
use Rattle.part_store.specs.Keeps.{Keeps}
use Rattle.part_store.specs.Settings.{IsSetting}
use Rattle.part_store.specs.declared.setting.Setting.{Setting}
use Rattle.part_store.proofs.SameKeys.{bytes_keys}
use Rattle.part_views.specs.Reading.{row_in, out_of, in_of}
use Rattle.part_views.specs.Views.{FitsQuery, edges_prefix, out_shown, in_shown, outs, ins, seen}
use Rattle.part_views.proofs.InOrder.{read_twice, read_passing}
use Rattle.part_views.proofs.Facts.{row_back, out_reads, outs_are, in_reads, ins_are, row_here_key, rows_are}
use Rattle.part_views.proofs.Prefix.{edge_begins}

-- what two readings gave, one behind the other
gave : {A B : Type 0} (g : A → Option B) (o : Option A) (b : B) → option_and_then g o ≡ Some b → (a : A) × (o ≡ Some a) × (g a ≡ Some b)
gave g None b h = absurd (cc)
gave g (Some a) b h = (a, refl, h)

wanted : (b c : Bool) (f g : Found) → (if b && c then Some f else None) ≡ Some g → b ≡ true
wanted true c f g h = refl
wanted false c f g h = absurd (cc)

-- nothing where something would be wrong
none_else : {A : Type 0} (o : Option A) → ((a : A) → o ≡ Some a → ⊥) → o ≡ None
none_else None never = refl
none_else (Some a) never = absurd (never a refl)

row_through : (o : Option (List Val)) → ((vals : List Val) → o ≡ Some vals → FitsRow vals) → option_and_then row_in (option_map row o) ≡ o
row_through None fits = refl
row_through (Some vals) fits = row_back vals (fits vals refl)

module _ (s : Setting) (is : IsSetting s) (p : Part) (m : Contents) (keeps : Keeps s p m) where
  abbrev Known : List ℕ × List ℕ → Type 0
  Known e = get m e.0 ≡ Some e.1

  out_under : (v : Vid) (types : List ℤ) (e : List ℕ × List ℕ) → Known e → starts_with nat_eq e.0 (edges_prefix s v) ≡ false → out_shown s.ids v types e ≡ None
  out_under v types e known off = none_else (out_shown s.ids v types e) (λ f shown.
      let k = gave (found_out v types) (out_of s.ids e) f shown in
      let src : v ≡ k.0.0.src = same_is vid_keys v k.0.0.src (wanted (eq_by_cmp vid_cmp v k.0.0.src) (list_any (λ t. int_eq t k.0.0.etype) types) (record { edge = Some k.0.0; inward = false; row = k.0.1 }) f k.2) in
      let bytes : e.0 ≡ key s.ids (keys.OutEdge s.part k.0.0) = ((out_reads s is p m keeps).sound e known k.0 k.1).1 in
      let on : starts_with nat_eq e.0 (edges_prefix s v) ≡ true = ap (λ (w : Vid). starts_with nat_eq e.0 (edges_prefix s w)) src ∙ ap (λ (b : List ℕ). starts_with nat_eq b (edges_prefix s k.0.0.src)) bytes ∙ edge_begins s.ids s.part k.0.0 in
      cc)

  outs_seen : (v : Vid) (types : List ℤ) → outs s m v types ≡ filter_map (found_out v types) (entries p.out)
  outs_seen v types =
      read_passing (out_shown s.ids v types) (λ pair. starts_with nat_eq pair.0 (edges_prefix s v)) Known (entries m) (entries_got bytes_keys m) (out_under v types)
      ∙ sym (read_twice (found_out v types) (out_of s.ids) (entries m))
      ∙ ap (filter_map (found_out v types)) (outs_are s is p m keeps)

  in_under : (v : Vid) (types : List ℤ) (e : List ℕ × List ℕ) → Known e → starts_with nat_eq e.0 (edges_prefix s v) ≡ false → in_shown s.ids v types e ≡ None
  in_under v types e known off = none_else (in_shown s.ids v types e) (λ f shown.
      let k = gave (found_in v types) (option_and_then row_here (in_of s.ids e)) f shown in
      let j = gave row_here (in_of s.ids e) k.0 k.1 in
      let same : k.0.0 ≡ j.0.0 = row_here_key j.0 k.0 j.2 in
      let dst : v ≡ j.0.0.dst = same_is vid_keys v k.0.0.dst (wanted (eq_by_cmp vid_cmp v k.0.0.dst) (list_any (λ t. int_eq t k.0.0.etype) types) (record { edge = Some (edge_of k.0.0); inward = true; row = k.0.1 }) f k.2) ∙ ap (λ (x : InKey). x.dst) same in
      let bytes : e.0 ≡ key s.ids (keys.InEdge s.part (edge_of j.0.0)) = ((in_reads s is p m keeps).sound e known j.0 j.1).1 in
      let on : starts_with nat_eq e.0 (edges_prefix s v) ≡ true = ap (λ (w : Vid). starts_with nat_eq e.0 (edges_prefix s w)) dst ∙ ap (λ (b : List ℕ). starts_with nat_eq b (edges_prefix s j.0.0.dst)) bytes ∙ edge_begins s.ids s.part (turned (edge_of j.0.0)) in
      cc)

  ins_seen : (v : Vid) (types : List ℤ) → ins s m v types ≡ filter_map (found_in v types) (entries (rows_here p.inn))
  ins_seen v types =
      read_passing (in_shown s.ids v types) (λ pair. starts_with nat_eq pair.0 (edges_prefix s v)) Known (entries m) (entries_got bytes_keys m) (in_under v types)
      ∙ sym (read_twice (found_in v types) (λ e. option_and_then row_here (in_of s.ids e)) (entries m))
      ∙ ap (filter_map (found_in v types)) (sym (read_twice row_here (in_of s.ids) (entries m)) ∙ ap (filter_map row_here) (ins_are s is p m keeps) ∙ sym (rows_are p.inn))

  pub seen_is : (query : Query) → FitsQuery s query → seen s m query ≡ view query p
  seen_is (Tag v t) fits =
      ap (λ (w : Option (List ℕ)). row_alone None (option_and_then row_in w)) (keeps.facts (keys.Tag s.part v t) fits refl)
      ∙ ap (row_alone None) (row_through (get p.tags (tag_at v t)) (λ vals there. (keeps.fits.tags (tag_at v t) vals there).1))
  seen_is (Edge e) fits =
      ap (λ (w : Option (List ℕ)). row_alone (Some e) (option_and_then row_in w)) (keeps.facts (keys.OutEdge s.part e) fits refl)
      ∙ ap (row_alone (Some e)) (row_through (get p.out e) (λ vals there. (keeps.fits.out e vals there).1))
  seen_is (Out v types) fits = outs_seen v types
  seen_is (In v types) fits = ins_seen v types
  seen_is (Both v types) fits = ap (λ l. l ++ outs s m v types) (ins_seen v types) ∙ ap (λ l. filter_map (found_in v types) (entries (rows_here p.inn)) ++ l) (outs_seen v types)

-- an answer is what it is equal to
pub answer_is : {A E : Type 0} (r : Result A E) (a b : A) → IfOk r (λ x. x ≡ a) → a ≡ b → IfOk r (λ x. x ≡ b)
answer_is (Ok x) a b h e = h ∙ e
answer_is (Err x) a b h e = tt
