-- A step that is made ahead.
use Rattle.std.specs.Prelude.{◌≡◌, ℕ, suc, ◌≤◌, Bool, true, List, map, Option, None, Some}
use Rattle.kv_part.specs.Store.{Contents}
use Rattle.raft_core.specs.Durable as lasting
use Rattle.raft_log.specs.declared.record.Record.{Record}
use Rattle.raft_log.specs.Config.{AreEntries}
use Rattle.replica_model.specs.declared.input.Input.{Input}
use Rattle.replica_model.specs.Asks.{are_entries}
use Rattle.part_keys.specs.declared.entry.PartEntry.{PartEntry}
use Rattle.part_rules.specs.Part.{Part}
use Rattle.part_machine.specs.Machine.{IsMachine}
use Rattle.part_machine.specs.Playing as plays
use Rattle.replica_model.specs.Replica.{Replica, machine_of}
use Rattle.replica_model.specs.Stepped.{Stepped, stepped}
use Rattle.replica_state.specs.Leaving.{leaving_of}
use Rattle.replica_peer.specs.declared.peer.Peer.{Peer}
use Rattle.replica_peer.specs.declared.next.Next.{Next}
use Rattle.replica_peer.specs.declared.next.Next.TheVariants as next
use Rattle.replica_peer.specs.declared.room.Room.{Room}
use Rattle.replica_peer.specs.Next.{goes_to, FitsNext}
use Rattle.replica_peer.specs.Peer.{home_of, replica_of}

-- the step of a peer with that input
abbrev pub step_of : {S : Type 0} → Peer S → Input → Stepped
step_of a input = stepped (home_of a) (replica_of a) input

-- a record's configurations are configurations
abbrev pub HoldsEntries : Option Record → Type 0
HoldsEntries None = Unit {0}
HoldsEntries (Some r) = AreEntries r.entries

-- the machine behind what becomes of a peer, and how far it has come
abbrev pub GoesWithMachine : {S : Type 0} → Peer S → Next → Replica → Type 0
GoesWithMachine a (next.Steps s) behind =
    (machine_of (home_of a) behind ≡ plays.behind a.machine.setting (machine_of (home_of a) (replica_of a)) s.placed)
    × (plays.next_by a.machine.next s.placed ≤ suc behind.core.commit)
GoesWithMachine a other behind = Unit {0}

-- A room holds such a step of a peer: its record, what leaves, why a change of the members was refused, and what
-- becomes of the peer; what is durable behind it is what was, changed by its record.
pub record IsRoomOf {S : Type 0} (meaning : S → Contents) (has_place : S → List ℕ → Bool) (a : Peer S) (st : Stepped) (room : Room) : Type 0 where
  pub kept : room.kept ≡ st.kept
  pub leaves : map leaving_of room.leaves ≡ st.leaves
  pub change : room.change ≡ st.change
  pub items : HoldsEntries room.kept
  pub durable : lasting.durable st.replica.core ≡ lasting.kept (lasting.durable (replica_of a).core) room.kept
  pub next : goes_to (home_of a) (replica_of a) room.next ≡ st.replica
  pub fits : FitsNext meaning has_place a room.next
  pub machine : GoesWithMachine a room.next st.replica
  pub entries : are_entries (home_of a) st.replica.core.log ≡ true

-- a room holds the step of that peer with that input
abbrev pub IsRoomFor : {S : Type 0} → (S → Contents) → (S → List ℕ → Bool) → Peer S → Input → Room → Type 0
IsRoomFor meaning has_place a input room = IsRoomOf meaning has_place a (step_of a input) room

-- What a peer is stays, but for room and for the entries that are reserved.
pub record IsSame {S : Type 0} (meaning : S → Contents) (has_place : S → List ℕ → Bool) (a b : Peer S) : Type 0 where
  pub replica : replica_of b ≡ replica_of a
  pub home : home_of b ≡ home_of a
  pub setting : b.machine.setting ≡ a.machine.setting
  pub next : b.machine.next ≡ a.machine.next
  pub shows : (p : Part) (entries : List (ℕ × PartEntry)) → IsMachine meaning has_place p entries a.machine → (left : List (ℕ × PartEntry)) × IsMachine meaning has_place p left b.machine
