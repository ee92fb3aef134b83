-- The rows of a leader's table are of their chains' calls.
use Rattle.std.proofs.Common.{◌≡◌, inl, inr, ℕ, List, [], ◌∷◌, Option, Some, None, Bool, true, refl, ap, sym, subst, ◌∙◌}
use Rattle.std.specs.List.{AllByRecursion}
use Rattle.std.specs.FinMap.{get, insert}
use Rattle.std.proofs.lemmas.Option.{same_Some}
use Rattle.graph_model.specs.declared.call_id.CallId.{CallId}
use Rattle.part_keys.specs.declared.chain.ChainState.{ChainState}
use Rattle.part_keys.specs.declared.chain.PrimeRec.{PrimeRec}
use Rattle.part_keys.specs.declared.chain.Mode.TheVariants.{Put}
use Rattle.part_keys.specs.declared.chain.Policy.{Policy}
use Rattle.part_keys.specs.declared.entry.PartEntry.{PartEntry}
use Rattle.part_rules.specs.Part.{Part}
use Rattle.part_rules.specs.declared.applied.Applied.{Applied}
use Rattle.part_rules.specs.declared.applied.Applied.TheVariants as told
use Rattle.chain_leader.specs.Rules.{Table, added, asks_once}
use Rattle.chain_leader.specs.Leading.{and_then, resumes_all, forgetting, begins, ruled_by, Ruled}
use Rattle.chain_world.specs.Invariant.Doubling.{RowsAre}
use Rattle.chain_world.proofs.Folding.{found_inserted}
use Rattle.chain_world.proofs.Tables.{IsSet, IsTakenUp, asks_cases, resume_cases, primed_case}
use Rattle.chain_world.proofs.Ready.{same_or_other}
use Rattle.chain_world.proofs.Forgetting.{forgot_back, ruled_cases}

module _ (of : ℕ → CallId → Type 0) where
  pub rows_insert : (t : Table) (v : ℕ) (row : ChainState) → RowsAre of t → of v row.id → RowsAre of (insert t v row)
  rows_insert t v row are its w x has = elim (found_inserted t v row w x has) [
    | inl here ↦ subst (λ (n : ℕ). of n x.id) (sym here.0) (subst (λ (y : ChainState). of v y.id) (sym here.1) its)
    | inr old ↦ are w x old
  ]

  rows_set : (t : Table) (v : ℕ) (row : ChainState) (u : Table) → RowsAre of t → IsSet t v row u → of v row.id → RowsAre of u
  rows_set t v row u are set its w x has = elim (same_or_other w v) [
    | inl here ↦ subst (λ (n : ℕ). of n x.id) (sym here) (subst (of v) (sym set.same.id ∙ ap (λ (y : ChainState). y.id) (same_Some set.here x (sym set.there ∙ ap (get u) (sym here) ∙ has))) its)
    | inr other ↦ are w x (sym (set.others w other) ∙ has)
  ]

  pub rows_asks : (t : Table) (v : ℕ) (ending : ChainState → Option PartEntry) → RowsAre of t → RowsAre of (asks_once t v ending (get t v)).0
  rows_asks t v ending are = asks_cases (λ (made : Table × Option PartEntry). RowsAre of made.0) t v ending are (λ row x there ends. rows_insert t v (record row { asked = true }) are (are v row there))

  pub rows_forgetting : (t : Table) (p : Part) (o : Option ℕ) → RowsAre of t → RowsAre of (forgetting t p o)
  rows_forgetting t p o are v row has = are v row (forgot_back t p o v row has).0

  taken_up_are : (t : Table) (rec : PrimeRec) (policy : Policy) (row : ChainState) → RowsAre of t → of rec.v rec.id → IsTakenUp t rec policy row → of rec.v row.id
  taken_up_are t rec policy row are its (inl new) = subst (λ (y : ChainState). of rec.v y.id) (sym new.1) its
  taken_up_are t rec policy row are its (inr old) = subst (λ (y : ChainState). of rec.v y.id) (sym old.2) (are rec.v old.0 old.1)

  pub resumes_are : (term : ℕ) (policy : Policy) (chains : List (ℕ × PrimeRec)) (table : Table) → RowsAre of table → AllByRecursion (λ (c : ℕ × PrimeRec). of c.1.v c.1.id) chains → RowsAre of (resumes_all term policy chains table).table
  resumes_are term policy [] table are all = are
  resumes_are term policy (c ∷ chains) table are all =
      resume_cases (λ (made : Ruled). RowsAre of (and_then made (resumes_all term policy chains)).table) term table c.1 policy
      (λ row up kind u route set. resumes_are term policy chains u (rows_set table c.1.v row u are set (taken_up_are table c.1 policy row are all.0 up)) all.1)
      (λ row up kind u route set. resumes_are term policy chains u (rows_set table c.1.v row u are set (taken_up_are table c.1 policy row are all.0 up)) all.1)

  pub ruled_are : (term : ℕ) (table : Table) (b : Bool) (m : Part) (a : Applied) → RowsAre of table → ((v : ℕ) → a ≡ told.Begun v → (rec : PrimeRec) → get m.chains v ≡ Some rec → of rec.v rec.id) → RowsAre of (ruled_by b term table m a).table
  ruled_are term table b m a are its = ruled_cases (λ (ru : Ruled). RowsAre of ru.table) term table m b a (λ ready v e. by_record v e (get m.chains v) refl) (λ other. are)
    where
      by_record : (v : ℕ) → a ≡ told.Begun v → (o : Option PrimeRec) → get m.chains v ≡ o → RowsAre of (begins term table o).table
      by_record v e None there = are
      by_record v e (Some rec) there = primed_case (λ (ru : Ruled). RowsAre of ru.table) term table rec (λ u route set. rows_set table rec.v (added rec Put) u are set (its v e rec there))
