-- A step that is made ahead, with all that it gives.
use Rattle.std.specs.Prelude.{◌≡◌, ◌≤◌, List, ◌++◌, length, take, Option}
use Rattle.raft_log.specs.declared.entry.Entry.{Entry}
use Rattle.raft_log.specs.Config.{AreEntries}
use Rattle.member_change.specs.declared.change.ChangeRefused.{ChangeRefused}
use Rattle.raft_core.specs.declared.ahead.Ahead.{Ahead}
use Rattle.raft_core.specs.declared.effects.RaftEffects.{RaftEffects}
use Rattle.raft_core.specs.declared.input.RaftInput.{RaftInput}
use Rattle.raft_core.specs.declared.made.Outcome.{Outcome}
use Rattle.raft_core.specs.declared.state.PeerState.{PeerState}
use Rattle.raft_core.specs.Ahead.{core_with, made_by}
use Rattle.raft_core.specs.Core.{Core}
use Rattle.raft_core.specs.Step.{Stepped, stepped, given}

-- a peer behind its step, and what the step gives
abbrev pub stepped_by : Core → RaftEffects → Stepped
stepped_by core effects = record {
  core = core;
  kept = effects.kept;
  sends = effects.sends;
  committed = effects.committed;
  began = effects.began;
  confirmed = effects.confirmed;
  change = effects.change;
}

-- the step that an outcome is, to a peer with this log
abbrev pub step_by : List Entry → Outcome → Stepped
step_by log made = stepped_by (core_with made.state (take made.keep log ++ made.entries.items)) made.effects

-- what the rules left is given
pub record IsGiven (state : PeerState) (log : List Entry) (change : Option ChangeRefused) (ahead : Ahead) (made : Outcome) : Type 0 where
  pub keep : made.keep ≡ ahead.keep
  pub entries : made.entries.items ≡ ahead.entries
  pub is : step_by log made ≡ given (core_with state log) change (made_by log ahead)

-- it is the step of this peer
pub record IsOutcome (core : Core) (input : RaftInput) (made : Outcome) : Type 0 where
  pub within : made.keep ≤ length core.log
  pub items : AreEntries made.entries.items
  pub is : step_by core.log made ≡ stepped core input
