-- A chain's in-halves are written all together, or none of them.
use Rattle.std.proofs.Common.{◌≡◌, ◌⊎◌, inl, inr, ℕ, suc, ◌<◌, List, [], ◌∷◌, true, ap, sym, ◌∙◌, subst, arith}
use Rattle.std.specs.Prelude.{nat_lt}
use Rattle.std.specs.FinMap.{FinMap, get-empty}
use Rattle.std.specs.List.{AllByRecursion}
use Rattle.std.specs.Map.{keys_of}
use Rattle.std.proofs.lemmas.Bool.{cases_Bool, ltb-true, ltb-false}
use Rattle.graph_model.specs.Keys.{edge_cmp, in_cmp, in_key}
use Rattle.graph_model.specs.declared.half.Half.{Half}
use Rattle.graph_model.specs.declared.edge_id.EdgeId.{EdgeId}
use Rattle.maps.specs.Keys.{has_key}
use Rattle.maps.proofs.Pairs.{at_key_in, has_key_of}
use Rattle.part_keys.specs.declared.in_half.InHalf.{InHalf}
use Rattle.part_keys.specs.declared.proposal.Proposal.{Proposal}
use Rattle.part_keys.specs.declared.proposal.Proposal.TheVariants.{Made}
use Rattle.part_rules.specs.Part.{Part, blank, number_of, number_in}
use Rattle.part_rules.specs.Machine.{in_written}
use Rattle.part_rules.specs.Folded.{item_applied, folded_from}
use Rattle.part_rules.specs.FoldLaws.{IsLastOn, AreWritten, AreUnwritten, WholeOrNone}
use Rattle.part_rules.proofs.FoldsAt.{in_fresh, in_kept, in_other}
use Rattle.part_rules.proofs.FoldsBy.{inn_by}
use Rattle.part_rules.proofs.FoldsLists.{item_cases}

module _ (v : ℕ) (list : List (EdgeId × Half)) where
  abbrev Whole : FinMap in_cmp InHalf → Type 0
  Whole inn = AreWritten v list inn ⊎ AreUnwritten v list inn

  -- its own Remote writes all that wasn't written; what was written is left
  own : (p : Part) → Whole p.inn → Whole (in_written p v list)
  own p (inl written) = inl (λ e h on. in_kept p v list e (let n = ap number_in (written e h on) in omega arith) ∙ written e h on)
  own p (inr unwritten) = inl (λ e h on. in_fresh p v list e h on (unwritten e (has_key_of edge_cmp e list h on)))

  -- a Remote of an earlier chain leaves what was written, and writes nothing that is as late
  earlier : (p : Part) (w : ℕ) (l : List (EdgeId × Half)) → ((e : EdgeId) → has_key edge_cmp e (keys_of list) ≡ true → has_key edge_cmp e (keys_of l) ≡ true → w < v) → Whole p.inn → Whole (in_written p w l)
  earlier p w l low (inl written) = inl (λ e h on. elim (cases_Bool (has_key edge_cmp e (keys_of l))) [
    | inl there ↦ (let n = ap number_in (written e h on) in let b = low e (has_key_of edge_cmp e list h on) there in in_kept p w l e (omega arith) ∙ written e h on)
    | inr off ↦ in_other p w l e off ∙ written e h on
  ])
  earlier p w l low (inr unwritten) = inr (λ e on. elim (cases_Bool (has_key edge_cmp e (keys_of l))) [
    | inl there ↦
        (let a = unwritten e on in
        let b = low e on there in
        let h = at_key_in edge_cmp e l there in
        elim (cases_Bool (nat_lt (number_of p e) w)) [
          | inl below ↦ (let n = ap number_in (in_fresh p w l e h.0 h.1 (ltb-true _ _ below)) in omega arith)
          | inr above ↦ (let n = ap number_in (in_kept p w l e (ltb-false _ _ above)) in omega arith)
        ])
    | inr off ↦ (let n = ap number_in (in_other p w l e off) in let a = unwritten e on in omega arith)
  ])

  -- along a list of which each Remote that names one of the edges is its own or earlier
  item_whole : (parts index : ℕ) (x : Proposal) (p : Part) → IsLastOn v list x → Whole p.inn → Whole (item_applied parts index x p).0.inn
  item_whole parts index x p last whole = item_cases parts (λ s. Whole s.0.inn) index x p whole (λ entry made. inn_by parts index p Whole entry whole (λ from term w l is fresh.
      elim (subst (IsLastOn v list) (made ∙ ap Made is) last) [
        | inl same ↦ subst (λ u. Whole (in_written p u l)) (sym same.0) (subst (λ m. Whole (in_written p v m)) (sym same.1) (own p whole))
        | inr low ↦ earlier p w l low whole
      ]))

  list_whole : (parts index : ℕ) (p : Part) (ds : List (ℕ × Proposal)) → AllByRecursion (λ (d : ℕ × Proposal). IsLastOn v list d.1) ds → Whole p.inn → Whole (folded_from parts index p ds).inn
  list_whole parts index p [] all whole = whole
  list_whole parts index p (d ∷ ds) all whole = list_whole parts (suc index) (item_applied parts index d.1 p).0 ds all.1 (item_whole parts index d.1 p all.0 whole)

pub whole_or_none : WholeOrNone
whole_or_none parts decided v list above all = list_whole v list parts 1 blank decided all (inr (λ e on. let n = ap number_in (get-empty in_cmp (in_key e)) in omega arith))
