-- What a machine shows.
use Rattle.std.specs.Prelude.{ℕ, Bool, List}
use Rattle.kv_part.specs.Store.{Contents}
use Rattle.part_keys.specs.declared.entry.PartEntry.{PartEntry}
use Rattle.part_rules.specs.Part.{Part}
use Rattle.part_store.specs.Settings.{IsSetting}
use Rattle.part_machine.specs.Chains.{standing}
use Rattle.part_machine.specs.Plans.{IsState, ArePlans, ArePlaced}
use Rattle.part_machine.specs.declared.machine.Machine.{Machine}

-- The machine shows this state, and these placed entries are reserved: the store and the index keep the state, and there
-- is a plan for each of the entries, with its places.
pub record IsMachine {S : Type 0} (meaning : S → Contents) (has_place : S → List ℕ → Bool) (p : Part) (entries : List (ℕ × PartEntry)) (a : Machine S) : Type 0 where
  pub setting : IsSetting a.setting
  pub state : IsState a.setting a.next p (meaning a.store) (standing a.chains.entries)
  pub planned : ArePlans a.setting a.next p (meaning a.store) (standing a.chains.entries) a.plans.items entries
  pub placed : ArePlaced (has_place a.store) a.chains.entries a.plans.items
