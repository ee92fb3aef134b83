-- A peer as the code keeps it: what it is beside its log, its log, and how many entries that can take without memory.
use Rattle.std.specs.Prelude.{◌≡◌, ◌≤◌, ℕ, List, [], ◌++◌, length, take, true, false, Result, Ok, Err, None, Some}
use Rattle.raft_log.specs.declared.entry.Entry.{Entry}
use Rattle.raft_log.specs.declared.role.Role.TheVariants.{Follower}
use Rattle.raft_log.specs.Log.{config_of, config_index}
use Rattle.raft_core.specs.declared.next_peer.NextPeer.{NextPeer}
use Rattle.raft_core.specs.declared.effects.NotLeader.{NotLeader}
use Rattle.raft_core.specs.declared.effects.RaftEffects.{RaftEffects}
use Rattle.raft_core.specs.declared.input.RaftInput.{RaftInput}
use Rattle.raft_core.specs.declared.made.Outcome.{Outcome}
use Rattle.raft_core.specs.declared.peer.RaftRoom.{RaftRoom}
use Rattle.raft_core.specs.declared.state.PeerState.{PeerState}
use Rattle.raft_core.specs.declared.view.PeerView.{PeerView}
use Rattle.raft_log.specs.Config.{AreEntries}
use Rattle.raft_core.specs.Ahead.{core_with}
use Rattle.raft_core.specs.Core.{Core, is_ready}
use Rattle.raft_core.specs.Outcome.{IsOutcome, stepped_by}
use Rattle.raft_core.specs.Step.{refusal, stepped}

abbrev pub Peer : Type 0
Peer = PeerState × (List Entry × ℕ)

abbrev pub core_of : Peer → Core
core_of peer = core_with peer.0 peer.1.0

-- what a follower with commit 0 is, beside its log
abbrev pub follower : ℕ → ℕ → ℕ → PeerState
follower me term vote =
    record { me = me; term = term; vote = vote; role = Follower; commit = 0; hint = 0; heard = false; votes = []; noop = 0; round = 0; rows = [] }

-- the peer takes the input, the outcome is that of its step, and the log has room for the entries
pub record IsMadeFor (peer : Peer) (input : RaftInput) (made : Outcome) : Type 0 where
  pub takes : refusal (core_of peer) input ≡ None
  pub outcome : IsOutcome (core_of peer) input made
  pub spare : length made.entries.items ≤ peer.1.1

-- what a room holds for the step of a peer: the refusal, where only a leader takes the input, else the step
abbrev pub IsAnswerFor : Peer → RaftInput → Result Outcome NotLeader → Type 0
IsAnswerFor peer input (Ok made) = IsMadeFor peer input made
IsAnswerFor peer input (Err refused) = refusal (core_of peer) input ≡ Some refused

abbrev pub IsRoomFor : Peer → RaftInput → RaftRoom → Type 0
IsRoomFor peer input room = IsAnswerFor peer input room.made

-- the peer that stands behind a step, whose log was this
abbrev pub core_next : List Entry → NextPeer → Core
core_next log next = core_with next.state (take next.keep log ++ next.entries.items)

-- The parts of a peer's step with an input: what stands behind it and what it gives are the step's, and the log has room for
-- the entries.
pub record IsNextBy (peer : Peer) (input : RaftInput) (effects : RaftEffects) (next : NextPeer) : Type 0 where
  pub within : next.keep ≤ length peer.1.0
  pub items : AreEntries next.entries.items
  pub spare : length next.entries.items ≤ peer.1.1
  pub is : stepped_by (core_next peer.1.0 next) effects ≡ stepped (core_of peer) input

-- what is seen of a peer: its last configuration, and the last one that is committed
abbrev pub view_of : Core → PeerView
view_of core = record {
  up = true;
  role = core.role;
  term = core.term;
  commit = core.commit;
  last = length core.log;
  latest = record { index = config_index core.log; config = config_of core.log };
  decided = record { index = config_index (take core.commit core.log); config = config_of (take core.commit core.log) };
  ready = is_ready core;
}
