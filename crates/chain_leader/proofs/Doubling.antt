-- The first chain that may be doubled, altered in the table.
use Rattle.std.proofs.Common.{◌≡◌, ℕ, Option, None, Some, refl, ap, sym, ◌∙◌}
use Rattle.std.specs.Option.{option_map}
use Rattle.std.specs.FinMap.{entries}
use Rattle.std.proofs.lemmas.Option.{same_Some}
use Rattle.maps.specs.Maps.{altered, altered_from}
use Rattle.graph_model.specs.declared.call_id.CallId.{CallId}
use Rattle.part_keys.specs.declared.chain.ChainState.{ChainState}
use Rattle.part_keys.specs.declared.entry.PartEntry.TheVariants.{Double}
use Rattle.chain_leader.specs.Rules.{Table, first_to_double, doubles, give_up}
use Rattle.chain_leader.specs.Table.{with_double}
use Rattle.chain_leader.proofs.Naming.{found_entry}

-- what is doubled is the row that stands there
doubled_by : (t : Table) (id : CallId) (v : ℕ) (o : Option (ℕ × ChainState)) → first_to_double id (entries t) ≡ o → option_map (λ c. c.0) o ≡ Some v
    → doubles t o ≡ (altered t v with_double, Some (Double v))
doubled_by t id v None e h = absurd (let k : None ≡ Some v = h in cc)
doubled_by t id v (Some c) e h =
    ap (λ w. (altered_from t c.0 with_double w, Some (Double c.0))) (sym (found_entry t id c e).0)
    ∙ ap (λ u. (altered t u with_double, Some (Double u))) (same_Some _ _ h)

pub doubled : (t : Table) (id : CallId) (v : ℕ) → option_map (λ c. c.0) (first_to_double id (entries t)) ≡ Some v → give_up t id ≡ (altered t v with_double, Some (Double v))
doubled t id v h = doubled_by t id v (first_to_double id (entries t)) refl h

none_by : (t : Table) (o : Option (ℕ × ChainState)) → option_map (λ c. c.0) o ≡ None → doubles t o ≡ (t, None)
none_by t None h = refl
none_by t (Some c) h = absurd (let k : Some c.0 ≡ None = h in cc)

-- where there is none, nothing is doubled
pub none_doubled : (t : Table) (id : CallId) → option_map (λ c. c.0) (first_to_double id (entries t)) ≡ None → give_up t id ≡ (t, None)
none_doubled t id h = none_by t (first_to_double id (entries t)) h
