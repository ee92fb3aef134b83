-- Chains that entries may end.
use Rattle.std.specs.Prelude.{ℕ, ◌==◌, Bool, false, List, Option, None, Some, if◌then◌else◌}
use Rattle.std.specs.List.{list_any}
use Rattle.part_keys.specs.declared.entry.PartEntry.{PartEntry}
use Rattle.std.specs.FinMap.{contains_key}
use Rattle.part_rules.specs.Part.{Part}
use Rattle.chain_leader.specs.Rules.{Table, forget}
use Rattle.chain_leader.specs.Leading.{chain_in}

abbrev pub ends_at : ℕ → Option ℕ → Bool
ends_at v None = false
ends_at v (Some w) = v == w

-- whether one of these entries may end that chain
abbrev pub ends_among : ℕ → List (ℕ × PartEntry) → Bool
ends_among v entries = list_any (λ (x : ℕ × PartEntry). ends_at v (chain_in x.1)) entries

-- the chain that an entry may end, where its record is gone in the part behind the entry
abbrev pub gone_by : Part → Option ℕ → Option ℕ
gone_by behind None = None
gone_by behind (Some v) = if contains_key behind.chains v then None else Some v

abbrev pub forgotten : Table → Option ℕ → Table
forgotten t None = t
forgotten t (Some v) = forget t v
