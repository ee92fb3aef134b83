-- A replica as the program keeps it, beside its machine.
use Rattle.std.specs.Prelude.{ℕ, map}
use Rattle.graph_bytes.specs.declared.id_form.IdForm.TheVariants.{Tagged}
use Rattle.graph_bytes.specs.Fits.{IsSmall, HasSpellingHalves, HasSpellingEdges}
use Rattle.part_keys.specs.Fits.{HasSpelling}
use Rattle.chain_leader.specs.declared.body.ChainBody.{ChainBody}
use Rattle.chain_leader.specs.declared.body.ChainBody.TheVariants as says
use Rattle.chain_leader.specs.Leader.{leads}
use Rattle.raft_core.specs.Ahead.{IsMessage}
use Rattle.raft_core.specs.Peer.{core_of}
use Rattle.replica_model.specs.declared.packet.Place.{Place}
use Rattle.replica_model.specs.declared.packet.Place.TheVariants as place
use Rattle.replica_model.specs.declared.packet.Body.{Body}
use Rattle.replica_model.specs.declared.packet.Body.TheVariants as body
use Rattle.replica_model.specs.declared.input.Input.{Input}
use Rattle.replica_model.specs.declared.input.Input.TheVariants as input
use Rattle.replica_model.specs.Bytes.{spelling_of}
use Rattle.replica_model.specs.Replica.{Home, Row, Replica}
use Rattle.replica_state.specs.Places.{held, number_held}
use Rattle.replica_state.specs.declared.state.ReplicaState.{ReplicaState}
use Rattle.replica_state.specs.declared.whose.Whose.{Whose}
use Rattle.replica_state.specs.declared.waiting.WaitingRead.{WaitingRead}

-- a replica's log has its entries in the second version
abbrev pub version : ℕ
version = 2

-- where a replica of a part belongs
abbrev pub home_in : Whose → Home
home_in s = record { part = s.part; parts = s.parts; ids = s.ids; spelling = spelling_of version }

abbrev pub row_of : WaitingRead → Row
row_of w = record { id = w.id; answer = w.answer; round = w.round }

abbrev pub home_of : ReplicaState → Home
home_of a = home_in a.whose

-- the replica that it is
abbrev pub replica_of : ReplicaState → Replica
replica_of a = record {
  core = core_of a.core;
  lead = leads a.leader;
  senders = held a.senders.entries;
  hints = number_held a.hints.entries;
  rows = map row_of a.rows.items;
}

-- What a packet that may be taken holds: its place is one, an Append's configurations are configurations, and what it brings to
-- be proposed has a spelling.
abbrev pub IsHeardPlace : Place → Type 0
IsHeardPlace (place.Client c) = Unit {0}
IsHeardPlace (place.Peer part peer) = IsSmall part

abbrev pub IsHeardSaid : ChainBody → Type 0
IsHeardSaid (says.Request number x) = HasSpelling Tagged x
IsHeardSaid (says.Remote term v list) = HasSpellingHalves Tagged list
IsHeardSaid (says.Fence term v edges) = HasSpellingEdges Tagged edges
IsHeardSaid other = Unit {0}

-- the part of whose leader a Remote or a Fence is names a part
abbrev pub IsSourced : ChainBody → ℕ → Type 0
IsSourced (says.Remote term v list) from = IsSmall from
IsSourced (says.Fence term v edges) from = IsSmall from
IsSourced other from = Unit {0}

abbrev pub IsHeardBody : Body → Type 0
IsHeardBody (body.Raft message) = IsMessage message
IsHeardBody (body.Chain said) = IsHeardSaid said

abbrev pub IsHeard : Input → Type 0
IsHeard (input.Sent packet) = IsHeardPlace packet.from × IsHeardBody packet.body
IsHeard (input.Tick t) = Unit {0}
