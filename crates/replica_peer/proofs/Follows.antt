-- Entries that are applied one after another, and the table that follows.
use Rattle.std.proofs.Common.{◌≡◌, ℕ, ◌+◌, List, [], ◌∷◌, Option, None, Some, Bool, true, false, refl, arith}
use Rattle.std.specs.Prelude.{if◌then◌else◌}
use Rattle.std.specs.FinMap.{contains_key}
use Rattle.kv_part.specs.Store.{Contents}
use Rattle.part_keys.specs.declared.chain.ChainState.{ChainState}
use Rattle.part_keys.specs.declared.entry.PartEntry.{PartEntry}
use Rattle.part_rules.specs.Machine.{applied}
use Rattle.part_rules.specs.Part.{Part}
use Rattle.part_store.specs.declared.setting.Setting.{Setting}
use Rattle.part_machine.specs.Machine.{IsMachine}
use Rattle.part_machine.specs.Playing.{behind}
use Rattle.part_machine.specs.declared.machine.Machine.{Machine}
use Rattle.chain_leader.specs.Leading.{chain_in, forgetting}
use Rattle.chain_leader.specs.Rules.{Table, forget}
use Rattle.replica_peer.specs.Ended.{gone_by, forgotten}
use Rattle.replica_peer.specs.Next.{rows_in, first_row, rows_behind}
use Rattle.replica_peer.specs.Worked.{with_row, tabled}

pub forgotten_is : (t : Table) (behind : Part) (ended : Option ℕ) → forgotten t (gone_by behind ended) ≡ forgetting t behind ended
forgotten_is t behind None = refl
forgotten_is t behind (Some v) = by (contains_key behind.chains v)
  where
    by : (b : Bool) → forgotten t (if b then None else Some v) ≡ (if b then t else forget t v)
    by true = refl
    by false = refl

pub tabled_next : (parts : ℕ) (p : Part) (t : Table) (x : ℕ × PartEntry) (entries : List (ℕ × PartEntry)) (begins : List (Option (ℕ × ChainState)))
    → tabled parts p t (x ∷ entries) begins ≡ tabled parts (applied parts x.0 x.1 p).0 (with_row (forgetting t (applied parts x.0 x.1 p).0 (chain_in x.1)) (first_row begins)) entries (rows_behind begins)
tabled_next parts p t x entries [] = refl
tabled_next parts p t x entries (b ∷ begins) = refl

rows_two : (row : Option (ℕ × ChainState)) (begins : List (Option (ℕ × ChainState))) → rows_in (row ∷ begins) ≡ rows_in (row ∷ []) + rows_in begins
rows_two None begins = omega arith
rows_two (Some row) begins = omega arith

pub rows_split : (begins : List (Option (ℕ × ChainState))) → rows_in begins ≡ rows_in (first_row begins ∷ []) + rows_in (rows_behind begins)
rows_split [] = omega arith
rows_split (b ∷ begins) = rows_two b begins

-- Some entries are applied: the machine shows the part behind them, the others are reserved, and with these the part and the table
-- become what all make of the first.
pub record IsApplied {S : Type 0} (meaning : S → Contents) (has_at : S → List ℕ → Bool) (p : Part) (t : Table) (entries : List (ℕ × PartEntry)) (begins : List (Option (ℕ × ChainState))) (s : Setting)
    (machine : Machine S) (table : Table) (rest : List (ℕ × PartEntry)) (rows : List (Option (ℕ × ChainState))) : Type 0 where
  pub part : Part
  pub shows : IsMachine meaning has_at part rest machine
  pub left : behind machine.setting part rest ≡ behind s p entries
  pub follows : tabled machine.setting.parts part table rest rows ≡ tabled s.parts p t entries begins
