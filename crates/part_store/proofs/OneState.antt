-- A store keeps one state alone.
use Rattle.std.proofs.Common.{◌≡◌, ℕ, ◌<◌, ◌^◌, List, Option, None, Some, refl, ap, sym, ◌∙◌}
use Rattle.std.specs.FinMap.{get}
use Rattle.std.specs.Option.{option_map}
use Rattle.std.proofs.lemmas.Option.{same_Some}
use Rattle.byte_fields.specs.Reading.{whole}
use Rattle.byte_fields.proofs.FieldLaws.{whole_again}
use Rattle.byte_fields.proofs.Formats.{IsFormat, number_format, both_format}
use Rattle.byte_fields.proofs.Numbers.{wide8}
use Rattle.byte_fields.proofs.Steps.{ok_is}
use Rattle.graph_bytes.specs.Fits.{FitsRow, FitsHalf}
use Rattle.graph_bytes.specs.Spelling.{row}
use Rattle.graph_bytes.proofs.ValueFormats.{row_format, half_format}
use Rattle.graph_model.specs.Keys.{edge_of, in_key}
use Rattle.graph_model.specs.declared.half.Half.{Half}
use Rattle.graph_model.specs.declared.in_key.InKey.{InKey}
use Rattle.graph_model.proofs.KeyLemmas.{tag_keys, edge_keys, in_keys}
use Rattle.kv_part.specs.Store.{Contents}
use Rattle.maps.proofs.Keys.{nat_keys}
use Rattle.maps.proofs.Updates.{same_by_keys}
use Rattle.part_keys.specs.declared.in_half.InHalf.{InHalf}
use Rattle.part_keys.specs.declared.key.Key.{Key}
use Rattle.part_keys.specs.declared.key.Key.TheVariants.{Tag, OutEdge, InEdge, Guard, Client}
use Rattle.part_keys.specs.Keys.{FitsKey}
use Rattle.part_keys.specs.KeyOrder.{part_in}
use Rattle.part_rules.specs.declared.kept.Kept.{Kept}
use Rattle.part_rules.specs.Part.{Part}
use Rattle.part_store.specs.Facts.{fact}
use Rattle.part_store.specs.Keeps.{Keeps, FitsOutcome}
use Rattle.part_store.specs.Reads.{number_of_value, last_of_value}
use Rattle.part_store.specs.Laws.{KeepsOne}
use Rattle.part_store.specs.Values.{in_value, guard_value, client_value}
use Rattle.part_store.specs.declared.setting.Setting.{Setting}
use Rattle.part_store.proofs.ReadBack.{guard_back, last_back}

-- what has one spelling is told by it
format_same : {X : Type 0} (f : List ℕ → _) (spell : X → List ℕ) (Fits : X → Type 0) → IsFormat f spell Fits → (x y : X) → Fits x → Fits y → spell x ≡ spell y → x ≡ y
format_same f spell Fits format x y x-fits y-fits same =
    ok_is x y (sym (whole_again f spell Fits format.again x x-fits) ∙ ap (whole f) same ∙ whole_again f spell Fits format.again y y-fits)

-- two values at a key of which one store has the spelling
same_at : {X : Type 0} (P : Type 0) (spell : X → List ℕ) (Fits : X → Type 0) → ((x y : X) → Fits x → Fits y → spell x ≡ spell y → x ≡ y)
    → (a b : Option X) → ((x : X) → a ≡ Some x → P × Fits x) → ((x : X) → b ≡ Some x → P × Fits x) → (P → option_map spell a ≡ option_map spell b) → a ≡ b
same_at P spell Fits one None None a-fits b-fits same = refl
same_at P spell Fits one None (Some y) a-fits b-fits same = let e = same (b-fits y refl).0 in absurd cc
same_at P spell Fits one (Some x) None a-fits b-fits same = let e = same (a-fits x refl).0 in absurd cc
same_at P spell Fits one (Some x) (Some y) a-fits b-fits same =
    let f = a-fits x refl in
    ap (λ z. Some z) (one x y f.1 (b-fits y refl).1 (same_Some (spell x) (spell y) (same f.0)))

FitsInHalf : InHalf → Type 0
FitsInHalf kept = (kept.v < 2 ^ 64) × FitsHalf kept.half

in_same : (x y : InHalf) → FitsInHalf x → FitsInHalf y → in_value x ≡ in_value y → x ≡ y
unfolding FitsInHalf
in_same x y x-fits y-fits same =
    let pairs = format_same _ _ _ (both_format (number_format 8 wide8) half_format) (x.v, x.half) (y.v, y.half) x-fits y-fits same in
    ap (λ (z : ℕ × Half). record { v = z.0; half = z.1 }) pairs

guard_same : (x y : ℕ) → x < 2 ^ 64 → y < 2 ^ 64 → guard_value x ≡ guard_value y → x ≡ y
guard_same x y x-small y-small same = sym (guard_back x x-small) ∙ ap (λ (bytes : List ℕ). number_of_value (Some bytes)) same ∙ guard_back y y-small

FitsLast : Kept → Type 0
FitsLast last = (last.number < 2 ^ 64) × FitsOutcome last.outcome

last_same : (x y : Kept) → FitsLast x → FitsLast y → client_value x ≡ client_value y → x ≡ y
unfolding FitsLast
last_same x y x-fits y-fits same = same_Some x y (sym (last_back x x-fits.0 x-fits.1) ∙ ap (λ (bytes : List ℕ). last_of_value (Some bytes)) same ∙ last_back y y-fits.0 y-fits.1)

module _ (s : Setting) (m : Contents) (p q : Part) (left : Keeps s p m) (right : Keeps s q m) where
  -- both have the same fact at a key of the part
  fact_same : (k : Key) → FitsKey s.ids k → part_in k ≡ s.part → fact p k ≡ fact q k
  fact_same k fits of = sym (left.facts k fits of) ∙ right.facts k fits of

  tags_same : p.tags ≡ q.tags
  tags_same = same_by_keys tag_keys _ _ (λ t. same_at (FitsKey s.ids (Tag s.part t.vid t.tag)) row FitsRow (format_same _ row FitsRow row_format) (get p.tags t) (get q.tags t)
      (λ vals is. left.fits.tags t vals is) (λ vals is. right.fits.tags t vals is) (λ fits. fact_same (Tag s.part t.vid t.tag) fits refl))

  out_same : p.out ≡ q.out
  out_same = same_by_keys edge_keys _ _ (λ e. same_at (FitsKey s.ids (OutEdge s.part e)) row FitsRow (format_same _ row FitsRow row_format) (get p.out e) (get q.out e)
      (λ vals is. left.fits.out e vals is) (λ vals is. right.fits.out e vals is) (λ fits. fact_same (OutEdge s.part e) fits refl))

  in_at : (k : InKey) → ((k ≡ in_key (edge_of k)) × FitsKey s.ids (InEdge s.part (edge_of k))) → option_map in_value (get p.inn k) ≡ option_map in_value (get q.inn k)
  in_at k fits =
      ap (λ (x : InKey). option_map in_value (get p.inn x)) fits.0 ∙ fact_same (InEdge s.part (edge_of k)) fits.1 refl ∙ ap (λ (x : InKey). option_map in_value (get q.inn x)) (sym fits.0)

  inn_same : p.inn ≡ q.inn
  unfolding FitsInHalf
  inn_same = same_by_keys in_keys _ _ (λ k. same_at ((k ≡ in_key (edge_of k)) × FitsKey s.ids (InEdge s.part (edge_of k))) in_value FitsInHalf in_same (get p.inn k) (get q.inn k)
      (λ half is. let f = left.fits.inn k half is in ((f.is, f.place), (f.number, f.value))) (λ half is. let f = right.fits.inn k half is in ((f.is, f.place), (f.number, f.value))) (in_at k))

  guards_same : p.guards ≡ q.guards
  guards_same = same_by_keys nat_keys _ _ (λ source. same_at (FitsKey s.ids (Guard s.part source)) guard_value (λ term. term < 2 ^ 64) guard_same (get p.guards source) (get q.guards source)
      (λ term is. left.fits.guards source term is) (λ term is. right.fits.guards source term is) (λ fits. fact_same (Guard s.part source) fits refl))

  clients_same : p.clients ≡ q.clients
  unfolding FitsLast
  clients_same = same_by_keys nat_keys _ _ (λ client. same_at (FitsKey s.ids (Client s.part client)) client_value FitsLast last_same (get p.clients client) (get q.clients client)
      (λ last is. let f = left.fits.clients client last is in (f.0, (f.1, f.2))) (λ last is. let f = right.fits.clients client last is in (f.0, (f.1, f.2))) (λ fits. fact_same (Client s.part client) fits refl))

pub keeps_one : KeepsOne
keeps_one s is m p q left right chains = λ i. record {
  tags = tags_same s m p q left right i;
  out = out_same s m p q left right i;
  inn = inn_same s m p q left right i;
  chains = chains i;
  guards = guards_same s m p q left right i;
  clients = clients_same s m p q left right i;
}
