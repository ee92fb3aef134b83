-- What a query finds in a part has a spelling.
use Rattle.std.proofs.Common.{◌≡◌, ℤ, List, Option, None, Some, true, false, refl, subst}
use Rattle.std.specs.List.{filter_map}
use Rattle.std.specs.Option.{option_map}
use Rattle.std.specs.FinMap.{FinMap, get, entries}
use Rattle.std.proofs.lemmas.Bool.{cond_both}
use Rattle.std.proofs.lemmas.Option.{same_Some, none-some}
use Rattle.graph_bytes.specs.declared.id_form.IdForm.TheVariants.{Tagged}
use Rattle.graph_bytes.specs.Fits.{HasSpellingRow, HasSpellingHalf, HasSpellingEdge, HasSpellingFoundBy, HasSpellingFound, HasSpellingView}
use Rattle.graph_model.specs.Contents.{row_of}
use Rattle.graph_model.specs.Keys.{in_cmp, edge_of}
use Rattle.graph_model.specs.Views.{row_alone, is_wanted, found_out, found_in}
use Rattle.graph_model.specs.declared.edge_id.EdgeId.{EdgeId}
use Rattle.graph_model.specs.declared.found.Found.{Found}
use Rattle.graph_model.specs.declared.half.Half.{Half}
use Rattle.graph_model.specs.declared.half.Half.TheVariants.{Absent, Here}
use Rattle.graph_model.specs.declared.in_key.InKey.{InKey}
use Rattle.graph_model.specs.declared.query.Query.{Query}
use Rattle.graph_model.specs.declared.query.Query.TheVariants.{Tag, Edge, Out, In, Both}
use Rattle.graph_model.specs.declared.val.Val.{Val}
use Rattle.graph_model.specs.declared.vid.Vid.{Vid}
use Rattle.graph_model.proofs.KeyLemmas.{edge_keys, in_keys}
use Rattle.part_keys.specs.declared.in_half.InHalf.{InHalf}
use Rattle.part_rules.specs.Part.{Part}
use Rattle.part_rules.specs.View.{row_here, rows_here, view}
use Rattle.raft_core.proofs.Lists.{all_both, all_of-filter_map}
use Rattle.replica_spelling.specs.Held.{AllHeld}
use Rattle.replica_spelling.specs.Parts.{IsSpelledPart}
use Rattle.replica_spelling.proofs.Held.{each_held, held_made}

abbrev OutRow : EdgeId × List Val → Type 0
OutRow e = HasSpellingEdge Tagged e.0 × HasSpellingRow e.1

abbrev InRow : InKey × List Val → Type 0
InRow e = HasSpellingEdge Tagged (edge_of e.0) × HasSpellingRow e.1

alone_spelled : (edge : Option EdgeId) (found : Option (List Val)) → HasSpellingFoundBy Tagged edge false → ((row : List Val) → found ≡ Some row → HasSpellingRow row) → HasSpellingView Tagged (row_alone edge found)
alone_spelled edge None by rows = tt
alone_spelled edge (Some row) by rows = ((by, rows row refl), tt)

edge_spelled : (e : EdgeId) (found : Option (List Val)) → ((row : List Val) → found ≡ Some row → HasSpellingEdge Tagged e × HasSpellingRow row) → HasSpellingView Tagged (row_alone (Some e) found)
edge_spelled e None rows = tt
edge_spelled e (Some row) rows = (rows row refl, tt)

out_found : (v : Vid) (types : List ℤ) (e : EdgeId × List Val) (f : Found) → OutRow e → found_out v types e ≡ Some f → HasSpellingFound Tagged f
out_found v types e f is found =
    cond_both (is_wanted v types e.0.src e.0.etype) (Some (record { edge = Some e.0; inward = false; row = e.1 })) None (λ (o : Option Found). o ≡ Some f → HasSpellingFound Tagged f)
    (λ _ same. subst (HasSpellingFound Tagged) (same_Some _ f same) is)
    (λ _ none. absurd (none-some f none)) found

in_found : (v : Vid) (types : List ℤ) (e : InKey × List Val) (f : Found) → InRow e → found_in v types e ≡ Some f → HasSpellingFound Tagged f
in_found v types e f is found =
    cond_both (is_wanted v types e.0.dst e.0.etype) (Some (record { edge = Some (edge_of e.0); inward = true; row = e.1 })) None (λ (o : Option Found). o ≡ Some f → HasSpellingFound Tagged f)
    (λ _ same. subst (HasSpellingFound Tagged) (same_Some _ f same) is)
    (λ _ none. absurd (none-some f none)) found

-- the in-halves that are here
here_with : (key : InKey) (h : Half) (e : InKey × List Val) → HasSpellingEdge Tagged (edge_of key) → HasSpellingHalf h → option_map (λ row. (key, row)) (row_of h) ≡ Some e → InRow e
here_with key Absent e edge half found = absurd (none-some e found)
here_with key (Here row) e edge half found = subst InRow (same_Some (key, row) e found) (edge, half)

rows_spelled : (inn : FinMap in_cmp InHalf) → AllHeld (λ key kept. HasSpellingEdge Tagged (edge_of key) × HasSpellingHalf kept.half) inn → AllHeld (λ key row. InRow (key, row)) (rows_here inn)
rows_spelled inn is =
    held_made in_keys (λ key row. InRow (key, row)) (filter_map row_here (entries inn))
    (all_of-filter_map (λ (x : InKey × InHalf). HasSpellingEdge Tagged (edge_of x.0) × HasSpellingHalf x.1.half) InRow row_here (λ x e w found. here_with x.0 x.1.half e w.0 w.1 found)
    (entries inn) (each_held in_keys (λ key kept. HasSpellingEdge Tagged (edge_of key) × HasSpellingHalf kept.half) inn is))

module _ (p : Part) (is : IsSpelledPart p) where
  outs : (v : Vid) (types : List ℤ) → HasSpellingView Tagged (filter_map (found_out v types) (entries p.out))
  outs v types = all_of-filter_map OutRow (HasSpellingFound Tagged) (found_out v types) (out_found v types) (entries p.out)
      (each_held edge_keys (λ e row. HasSpellingEdge Tagged e × HasSpellingRow row) p.out is.out)

  ins : (v : Vid) (types : List ℤ) → HasSpellingView Tagged (filter_map (found_in v types) (entries (rows_here p.inn)))
  ins v types = all_of-filter_map InRow (HasSpellingFound Tagged) (found_in v types) (in_found v types) (entries (rows_here p.inn))
      (each_held in_keys (λ key row. InRow (key, row)) (rows_here p.inn) (rows_spelled p.inn is.inn))

  pub view_spelled : (q : Query) → HasSpellingView Tagged (view q p)
  view_spelled (Tag v t) = alone_spelled None (get p.tags (record { vid = v; tag = t })) refl (is.tags (record { vid = v; tag = t }))
  view_spelled (Edge e) = edge_spelled e (get p.out e) (is.out e)
  view_spelled (Out v types) = outs v types
  view_spelled (In v types) = ins v types
  view_spelled (Both v types) = all_both (HasSpellingFound Tagged) (filter_map (found_in v types) (entries (rows_here p.inn))) (filter_map (found_out v types) (entries p.out)) (ins v types) (outs v types)
