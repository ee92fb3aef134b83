-- A replica with its file.
use Rattle.std.specs.Prelude.{◌≡◌, ℕ, Bool, true, List, map, Option}
use Rattle.kv_part.specs.MapStore.{contents, has_place_for}
use Rattle.raft_core.specs.declared.view.PeerView.{PeerView}
use Rattle.replica_file.specs.OnDisk.{IsKept}
use Rattle.replica_model.specs.declared.input.Input.{Input}
use Rattle.replica_model.specs.Replica.{Home, Replica as State}
use Rattle.replica_model.specs.Stepped.{Stepped, stepped}
use Rattle.replica_peer.specs.Peer as peers
use Rattle.replica_peer.specs.Room as rooms
use Rattle.replica_state.specs.Leaving.{leaving_of}
use Rattle.replica_core.specs.declared.effects.Effects.{Effects}
use Rattle.replica_core.specs.declared.replica.Replica.{Replica}
use Rattle.replica_core.specs.declared.room.Room.{Room}
use Rattle.replica_record.specs.Durable.{durable_of}
use Rattle.replica_record.specs.Framed.{IsFramed}
use Rattle.replica_record.specs.Own.{allowed_in}

-- where it belongs, the replica that it is, and its disk
abbrev pub home_of : {D : Type 0} → Replica D → Home
home_of r = peers.home_of r.peer

abbrev pub state_of : {D : Type 0} → Replica D → State
state_of r = peers.replica_of r.peer

abbrev pub disk_of : {D : Type 0} → Replica D → D
disk_of r = r.file.0

-- What holds of a replica from its opening on: its peer is sound, and while it is up its file keeps what is durable of the
-- peer.
pub record IsSound {D : Type 0} (reads : D → Option (List ℕ)) (may_leave : D → List ℕ → Type 0) (r : Replica D) : Type 0 where
  pub peer : peers.IsReplica contents has_place_for r.peer
  pub kept : r.up ≡ true → IsKept reads may_leave (allowed_in (home_of r)) (durable_of (state_of r)) r.file

-- the step of a replica with that input
abbrev pub step_of : {D : Type 0} → Replica D → Input → Stepped
step_of r i = stepped (home_of r) (state_of r) i

-- The room is that of a step with this input: the peer's, and the frame of its record.
pub record IsRoomFor {D : Type 0} (room_calls room_bytes : D → ℕ) (r : Replica D) (i : Input) (room : Room) : Type 0 where
  pub made : rooms.IsRoomFor contents has_place_for r.peer i room.made
  pub framed : IsFramed (allowed_in (home_of r)) (room_calls (disk_of r)) (room_bytes (disk_of r)) room.made.kept room.frame

-- what a step gives: its packets, and why a change of the members was refused
pub record Gives (made : Stepped) (effects : Effects) : Type 0 where
  pub packets : map leaving_of effects.packets ≡ made.leaves
  pub change : effects.change ≡ made.change

-- what is seen of it, up or down
abbrev pub seen_of : PeerView → Bool → PeerView
seen_of view up = record view { up = up }
