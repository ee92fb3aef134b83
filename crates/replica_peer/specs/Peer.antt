-- A peer as the program keeps it, and the replica that it is.
use Rattle.std.specs.Prelude.{◌≡◌, ℕ, suc, ◌≤◌, Bool, true, List}
use Rattle.kv_part.specs.Store.{Contents}
use Rattle.part_keys.specs.declared.entry.PartEntry.{PartEntry}
use Rattle.part_store.specs.declared.setting.Setting.{Setting}
use Rattle.part_machine.specs.Machine.{IsMachine}
use Rattle.replica_model.specs.Asks.{are_entries}
use Rattle.replica_model.specs.Laws.{HintsStand}
use Rattle.replica_model.specs.Replica.{Home, Replica, machine_of}
use Rattle.replica_state.specs.State as states
use Rattle.replica_state.specs.declared.whose.Whose.{Whose}
use Rattle.replica_peer.specs.declared.peer.Peer.{Peer}

-- where a replica of a part of that space belongs
abbrev pub whose_in : Setting → Whose
whose_in s = record { part = s.part; parts = s.parts; ids = s.ids }

abbrev pub home_in : Setting → Home
home_in s = states.home_in (whose_in s)

abbrev pub setting_of : Whose → Setting
setting_of whose = record { ids = whose.ids; parts = whose.parts; part = whose.part }

-- where a peer belongs, and the replica that it is
abbrev pub home_of : {S : Type 0} → Peer S → Home
home_of a = states.home_of a.state

abbrev pub replica_of : {S : Type 0} → Peer S → Replica
replica_of a = states.replica_of a.state

-- What holds of a peer from its opening on: each payload of its log is an entry of its part, its machine, which may have entries
-- reserved, shows what the committed ones make, and no hint stands of a chain that isn't in the table.
pub record IsReplica {S : Type 0} (meaning : S → Contents) (has_place : S → List ℕ → Bool) (a : Peer S) : Type 0 where
  pub setting : a.machine.setting ≡ setting_of a.state.whose
  pub reserved : List (ℕ × PartEntry)
  pub shows : IsMachine meaning has_place (machine_of (home_of a) (replica_of a)) reserved a.machine
  pub next : a.machine.next ≤ suc (replica_of a).core.commit
  pub entries : are_entries (home_of a) (replica_of a).core.log ≡ true
  pub hints : HintsStand (replica_of a)
