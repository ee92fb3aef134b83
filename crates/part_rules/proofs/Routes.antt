-- The edges of what routes to a part, and so of the chains that stand there.
use Rattle.std.proofs.Common.{inl, inr, suc, subst, ◌≡◌, ℕ, List, [], ◌∷◌, ◌&&◌, ◌||◌, Bool, true, false, refl, ap, sym, ◌∙◌}
use Rattle.std.specs.Prelude.{◌==◌}
use Rattle.std.specs.List.{list_all}
use Rattle.std.specs.Ordering.{eq_by_cmp}
use Rattle.std.specs.FinMap.{get-empty}
use Rattle.std.specs.Ordering.{nat_cmp}
use Rattle.std.proofs.lemmas.Option.{none-some}
use Rattle.std.proofs.lemmas.Bool.{eqb-true}
use Rattle.graph_model.specs.Keys.{edge_cmp}
use Rattle.graph_model.specs.Ops.{edges_in}
use Rattle.graph_model.specs.declared.edge_id.EdgeId.{EdgeId}
use Rattle.graph_model.specs.declared.half.Half.{Half}
use Rattle.graph_model.specs.declared.call_id.CallId.{CallId}
use Rattle.graph_model.proofs.KeyLemmas.{edge_keys}
use Rattle.maps.specs.Keys.{has_key}
use Rattle.maps.proofs.Keys.{same_is, same_itself}
use Rattle.part_keys.specs.declared.entry.PartEntry.{PartEntry}
use Rattle.part_keys.specs.declared.entry.PartEntry.TheVariants.{Prime}
use Rattle.part_keys.specs.declared.proposal.Proposal.{Proposal}
use Rattle.part_keys.specs.declared.proposal.Proposal.TheVariants.{Start, Members, Made, Blank}
use Rattle.part_keys.specs.Routing.{part_of, all_from, all_into, remote_of, routes_to}
use Rattle.part_rules.specs.Part.{Part, blank}
use Rattle.part_rules.specs.Machine.{taken_of, begun_at, applied}
use Rattle.part_rules.specs.Folded.{item_applied, folded_from, folded}
use Rattle.part_rules.specs.Laws.{AreRouted, GoFrom, item_routes, AllRoute}
use Rattle.part_rules.proofs.FoldsTaken.{taken_on}
use Rattle.part_rules.proofs.FoldsBy.{chains_by}
use Rattle.part_rules.proofs.FoldsChains.{split_insert, split_remove}

-- both of two tests
and_parts : (a b : Bool) → (a && b) ≡ true → (a ≡ true) × (b ≡ true)
and_parts true b h = (refl, h)
and_parts false b h = absurd (cc)

-- what all edges of a list pass, each passes
each_passes : (test : EdgeId → Bool) (list : List (EdgeId × Half)) → list_all (λ x. test x.0) list ≡ true → (e : EdgeId) → has_key edge_cmp e (edges_in list) ≡ true → test e ≡ true
each_passes test [] h e on = cc
each_passes test (x ∷ list) h e on =
    let both = and_parts (test x.0) (list_all (λ x. test x.0) list) h in
    elim (eq_by_cmp edge_cmp e x.0) as (λ b. eq_by_cmp edge_cmp e x.0 ≡ b → (b || has_key edge_cmp e (edges_in list)) ≡ true → test e ≡ true) [
      | true ↦ λ tied k. ap test (same_is edge_keys e x.0 tied) ∙ both.0
      | false ↦ λ apart k. each_passes test list both.1 e k
    ] refl on

-- where all edges of a list end in one part, that is the part of its first
remote_same : (parts q : ℕ) (list : List (EdgeId × Half)) → ((e : EdgeId) → has_key edge_cmp e (edges_in list) ≡ true → part_of parts e.dst ≡ q) → (e : EdgeId) → has_key edge_cmp e (edges_in list) ≡ true → part_of parts e.dst ≡ remote_of parts list
remote_same parts q [] into e on = cc
remote_same parts q (x ∷ list) into e on = into e on ∙ sym (into x.0 (ap (λ b. b || has_key edge_cmp x.0 (edges_in list)) (same_itself edge_keys x.0)))

-- what a Prime takes, where it routes to part p, goes from there to the remote part
pub taken_routed : (parts p : ℕ) (m : Part) (id : CallId) (list : List (EdgeId × Half)) (absent : Bool) → routes_to parts p (Prime id list absent) ≡ true → AreRouted parts p (remote_of parts (taken_of m list absent)) (taken_of m list absent)
taken_routed parts p m id list absent h =
    let both = and_parts (all_from parts p list) (all_into parts (remote_of parts list) list) h in
    record {
      from = λ e on. eqb-true (part_of parts e.src) p (each_passes (λ k. part_of parts k.src == p) list both.0 e (taken_on m list absent e on));
      into = remote_same parts (remote_of parts list) (taken_of m list absent) (λ e on. eqb-true (part_of parts e.dst) (remote_of parts list) (each_passes (λ k. part_of parts k.dst == remote_of parts list) list both.1 e (taken_on m list absent e on)));
    }

module _ (parts p : ℕ) where
  -- behind an entry
  by_entry : (index : ℕ) (entry : PartEntry) (m : Part) → routes_to parts p entry ≡ true → GoFrom parts p m.chains → GoFrom parts p (applied parts index entry m).0.chains
  by_entry index entry m b h = chains_by parts index m (GoFrom parts p) entry h
      (λ id list absent is none some said v c there. elim (split_insert m.chains index (begun_at parts m index id list absent) v c there) [
        | inl new ↦ subst (λ x. AreRouted parts p x.remote x.list) new.1 (taken_routed parts p m id list absent (ap (routes_to parts p) (sym is) ∙ b))
        | inr was ↦ h v c was
      ])
      (λ w chain at v c there. elim (split_insert m.chains w (record chain { double = true }) v c there) [
        | inl new ↦ subst (λ x. AreRouted parts p x.remote x.list) new.1 (let old = h w chain at in record { from = old.from; into = old.into })
        | inr was ↦ h v c was
      ])
      (λ w chain at v c there. h v c (split_remove m.chains w v c there))

  -- behind an item
  by_item : (index : ℕ) (x : Proposal) (m : Part) → item_routes parts p x ≡ true → GoFrom parts p m.chains → GoFrom parts p (item_applied parts index x m).0.chains
  by_item index Start m b h = h
  by_item index (Members config) m b h = h
  by_item index (Made entry) m b h = by_entry index entry m b h
  by_item index Blank m b h = h

  -- behind a list
  on_list : (index : ℕ) (m : Part) (decided : List (ℕ × Proposal)) → AllRoute parts p decided → GoFrom parts p m.chains → GoFrom parts p (folded_from parts index m decided).chains
  on_list index m [] all h = h
  on_list index m (d ∷ decided) all h = on_list (suc index) (item_applied parts index d.1 m).0 decided all.1 (by_item index d.1 m all.0 h)

  -- behind a decided list
  pub primes_route : (decided : List (ℕ × Proposal)) → AllRoute parts p decided → GoFrom parts p (folded parts decided).chains
  primes_route decided all = on_list 1 blank decided all (λ v c there. absurd (none-some c (sym (get-empty nat_cmp v) ∙ there)))
