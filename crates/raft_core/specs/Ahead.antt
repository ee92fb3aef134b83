-- A step that is made ahead: the code's parts of a state and of what a rule leaves.
use Rattle.std.specs.Prelude.{ℕ, suc, ◌+◌, ◌<◌, ◌==◌, if◌then◌else◌, List, [], ◌∷◌, ◌++◌, length, take, Bool}
use Rattle.std.specs.List.{AllByRecursion}
use Rattle.raft_log.specs.declared.entry.Entry.{Entry}
use Rattle.raft_log.specs.declared.role.Role.TheVariants.{Candidate}
use Rattle.raft_log.specs.declared.message.RaftMsg.{RaftMsg}
use Rattle.raft_log.specs.declared.message.RaftMsg.TheVariants.{Append, Appended, Vote, Voted, TimeoutNow}
use Rattle.raft_log.specs.Config.{AreEntries}
use Rattle.raft_log.specs.Majority.{is_among}
use Rattle.raft_core.specs.declared.state.PeerState.{PeerState}
use Rattle.raft_core.specs.declared.ahead.Ahead.{Ahead}
use Rattle.member_change.specs.Permit.{member_in}
use Rattle.raft_core.specs.declared.input.RaftInput.{RaftInput}
use Rattle.raft_core.specs.declared.input.RaftInput.TheVariants.{Msg, Elect, Pulse, Propose, Transfer, Change, Confirm}
use Rattle.raft_core.specs.Core.{Core, Made, Sends}

-- a peer, from what it is beside its log, and its log
abbrev pub core_with : PeerState → List Entry → Core
core_with state log = record {
  me = state.me;
  term = state.term;
  vote = state.vote;
  log = log;
  role = state.role;
  commit = state.commit;
  hint = state.hint;
  heard = state.heard;
  votes = state.votes;
  noop = state.noop;
  round = state.round;
  rows = state.rows;
}

-- the log behind a step that is made ahead, and the peer
abbrev pub log_behind : List Entry → Ahead → List Entry
log_behind log ahead = take ahead.keep log ++ ahead.entries

abbrev pub core_behind : List Entry → Ahead → Core
core_behind log ahead = core_with ahead.state (log_behind log ahead)

-- what is left where a step that was made ahead is taken with this log
abbrev pub made_by : List Entry → Ahead → Made
made_by log ahead = record {
  core = core_behind log ahead;
  keep = ahead.keep;
  entries = ahead.entries;
  sends = ahead.sends;
  began = ahead.began;
}

-- a state with the log as it was, these messages, and whether an election began
abbrev pub unchanged : PeerState → List Entry → Sends → Bool → Made
unchanged state log sends began = record { core = core_with state log; keep = length log; entries = []; sends = sends; began = began }

-- a state with one more entry in the log
abbrev pub with_entry : PeerState → List Entry → Entry → Sends → Bool → Made
with_entry state log entry sends began = record {
  core = core_with state (log ++ entry ∷ []);
  keep = length log;
  entries = entry ∷ [];
  sends = sends;
  began = began;
}

-- a candidate in the next term, with its own vote
abbrev pub standing : PeerState → PeerState
standing state = record state { term = state.term + 1; vote = state.me; role = Candidate; votes = state.me ∷ [] }

-- a candidate with one more vote, where it didn't count yet
abbrev pub with_vote : PeerState → ℕ → PeerState
with_vote state from = record state { votes = if is_among from state.votes then state.votes else state.votes ++ from ∷ [] }

-- how many entries agree, from the first on, until one doesn't or there are no more
abbrev pub agreeing : List Entry → List Entry → ℕ
agreeing [] new = 0
agreeing (entry ∷ own) [] = 0
agreeing (entry ∷ own) (other ∷ new) = if entry.term == other.term then suc (agreeing own new) else 0

-- an entry that comes holds a configuration only where it is one, and a change names an id that is at least 1
abbrev pub IsMessage : RaftMsg → Type 0
IsMessage (Append term previous commit round entries) = AreEntries entries
IsMessage (Appended term ok index round) = Unit {0}
IsMessage (Vote term last) = Unit {0}
IsMessage (Voted term granted) = Unit {0}
IsMessage (TimeoutNow term) = Unit {0}

-- the same of each message that leaves
abbrev pub AreMessages : Sends → Type 0
AreMessages sends = AllByRecursion (λ (send : ℕ × RaftMsg). IsMessage send.1) sends

abbrev pub IsInput : RaftInput → Type 0
IsInput (Msg from message) = IsMessage message
IsInput Elect = Unit {0}
IsInput Pulse = Unit {0}
IsInput (Propose bytes) = Unit {0}
IsInput (Transfer peer) = Unit {0}
IsInput (Change change) = 0 < member_in change
IsInput Confirm = Unit {0}
