-- A group of peers, and what each event makes of it.
use Rattle.std.specs.Prelude.{ℕ, ◌==◌, nat_lt, List, [], ◌∷◌, ◌++◌, map, length, take, drop, Option, None, Some, Bool, true, false, not, ◌&&◌, if◌then◌else◌, slice_get}
use Rattle.raft_log.specs.declared.config.Config.{Config}
use Rattle.raft_log.specs.declared.entry.Entry.{Entry}
use Rattle.raft_log.specs.declared.entry.Item.{Item}
use Rattle.raft_log.specs.declared.entry.Item.TheVariants.{Members}
use Rattle.raft_log.specs.declared.message.RaftMsg.{RaftMsg}
use Rattle.raft_log.specs.Log.{config_of}
use Rattle.raft_log.specs.Majority.{is_among}
use Rattle.raft_log.specs.Peers.{put_among, joined, but}
use Rattle.raft_log.specs.Decided.{Leadership}
use Rattle.raft_core.specs.declared.input.RaftInput.{RaftInput}
use Rattle.member_change.specs.declared.change.Change.{Change as MemberChange}
use Rattle.member_change.specs.Permit.{member_in, is_member}
use Rattle.raft_core.specs.declared.input.RaftInput.TheVariants.{Msg, Elect as ElectInput, Pulse as PulseInput, Propose as ProposeInput, Transfer as TransferInput, Change as ChangeInput, Confirm as ConfirmInput}
use Rattle.raft_core.specs.Core.{Core, opened, is_leading, is_ready}
use Rattle.raft_core.specs.Step.{Stepped, stepped}
use Rattle.raft_core.specs.Durable.{crashed}
pub use Rattle.raft_group.specs.declared.sent.Sent.{Sent}
use Rattle.raft_group.specs.declared.event.Spur.{Spur}
use Rattle.raft_group.specs.declared.event.Spur.TheVariants.{Sent as SentSpur, Elect, Pulse, Propose, Transfer, Change, Confirm}
use Rattle.raft_group.specs.declared.event.GroupEvent.{GroupEvent}
use Rattle.raft_group.specs.declared.event.GroupEvent.TheVariants.{Step, StepCrash, Crash, Place, Wipe}

-- a round that a leader began, and what stood just before: whether the leader was ready, its commit, and how many
-- entries were decided
pub record Round : Type 0 where
  pub term : ℕ
  pub round : ℕ
  pub ready : Bool
  pub commit : ℕ
  pub decided : ℕ

-- the configuration with which it began; the peers that are in the group, and those that ever were; the state of each, by
-- id; all messages ever sent, of which nothing is taken out, because each may come again at any time; the decided
-- entries; who led which term and what it made; and the rounds that began
pub record Group : Type 0 where
  pub first : Config
  pub members : List ℕ
  pub placed : List ℕ
  pub core : ℕ → Core
  pub sent : List Sent
  pub decided : List Entry
  pub leaders : List (Leadership Item)
  pub rounds : List Round

-- the first entry of each log is the first configuration, at term 0
abbrev pub first_entry : Config → Entry
first_entry first = record { term = 0; item = Members first }

-- it counts as made by the leadership of term 0
abbrev pub founding : Config → Leadership Item
founding first = record { term = 0; peer = 0; base = 0; made = Members first ∷ [] }

-- those of the first configuration
abbrev pub first_members : Config → List ℕ
first_members first = joined first.voters first.learners

-- a peer that has nothing yet, as each is before it is placed; those of the first configuration have its entry
abbrev pub blank : ℕ → Core
blank id = opened id 0 0 []

abbrev pub first_core : Config → ℕ → Core
first_core first id = if is_among id (first_members first) then opened id 0 0 (first_entry first ∷ []) else blank id

abbrev pub start : Config → Group
start first = record {
  first = first;
  members = first_members first;
  placed = first_members first;
  core = first_core first;
  sent = [];
  decided = [];
  leaders = founding first ∷ [];
  rounds = [];
}

-- one peer's new state
abbrev pub core_set : (ℕ → Core) → ℕ → Core → ℕ → Core
core_set core peer behind id = if id == peer then behind else core id

-- What a leader made is what stands behind the log that it began with.
abbrev pub items_of : List Entry → List Item
items_of log = map (λ (entry : Entry). entry.item) log

abbrev pub begun : Core → Core → Leadership Item
begun before behind = record { term = behind.term; peer = behind.me; base = length before.log; made = items_of (drop (length before.log) behind.log) }

abbrev pub made_on : Core → Leadership Item → Leadership Item
made_on behind l = if l.term == behind.term then record l { made = items_of (drop l.base behind.log) } else l

abbrev pub led_before : Core → Core → Bool
led_before before behind = is_leading before.role && (before.term == behind.term)

-- a peer that leads behind its step has led the term before, or is a new leader
abbrev pub leaders_after : List (Leadership Item) → Core → Core → List (Leadership Item)
leaders_after leaders before behind =
    if is_leading behind.role
    then (if led_before before behind then map (made_on behind) leaders else leaders ++ begun before behind ∷ [])
    else leaders

-- decided grows exactly at a step in which a leader's commit passes its length, by the entries passed
abbrev pub decided_after : List Entry → Core → List Entry
decided_after decided behind =
    if is_leading behind.role && nat_lt (length decided) behind.commit
    then decided ++ drop (length decided) (take behind.commit behind.log)
    else decided

-- a round begins in a step that raises the round of a leader
abbrev pub round_begun : ℕ → Core → Core → Round
round_begun decided before behind = record { term = behind.term; round = behind.round; ready = is_ready before; commit = before.commit; decided = decided }

abbrev pub rounds_after : List Round → List Entry → Core → Core → List Round
rounds_after rounds decided before behind =
    if is_leading behind.role && nat_lt before.round behind.round
    then rounds ++ round_begun (length decided) before behind ∷ []
    else rounds

abbrev pub sent_by : ℕ → ℕ × RaftMsg → Sent
sent_by peer send = record { from = peer; to = send.0; message = send.1 }

-- a step is taken whole
abbrev pub with_step : Group → ℕ → Stepped → Group
with_step g peer st = record g {
  core = core_set g.core peer st.core;
  sent = g.sent ++ map (sent_by peer) st.sends;
  decided = decided_after g.decided st.core;
  leaders = leaders_after g.leaders (g.core peer) st.core;
  rounds = rounds_after g.rounds g.decided (g.core peer) st.core;
}

-- a step is stopped by a crash behind its record: what is durable is there, nothing is sent, nothing is decided
abbrev pub with_stop : Group → ℕ → Stepped → Group
with_stop g peer st = record g {
  core = core_set g.core peer (crashed st.core);
  leaders = leaders_after g.leaders (g.core peer) st.core;
}

-- a crash drops the volatile state
abbrev pub with_crash : Group → ℕ → Group
with_crash g peer = record g { core = core_set g.core peer (crashed (g.core peer)) }

-- a new peer, that was never in the group, is a blank follower; one that leaves it never comes back
abbrev pub with_peer : Group → ℕ → Group
with_peer g peer = record g { members = put_among peer g.members; placed = put_among peer g.placed; core = core_set g.core peer (blank peer) }

abbrev pub without_peer : Group → ℕ → Group
without_peer g peer = record g { members = but peer g.members }

-- the input that a spur is to a peer: a message is one where it was sent to that peer; a change names an id of at least 1
abbrev pub sent_to : ℕ → Option Sent → Option RaftInput
sent_to peer None = None
sent_to peer (Some s) = if s.to == peer then Some (Msg s.from s.message) else None

abbrev pub changed_by : MemberChange → Option RaftInput
changed_by change = if nat_lt 0 (member_in change) then Some (ChangeInput change) else None

abbrev pub input_from : List Sent → ℕ → Spur → Option RaftInput
input_from sent peer (SentSpur k) = sent_to peer (slice_get sent k)
input_from sent peer Elect = Some ElectInput
input_from sent peer Pulse = Some PulseInput
input_from sent peer (Propose bytes) = Some (ProposeInput bytes)
input_from sent peer (Transfer to) = Some (TransferInput to)
input_from sent peer (Change change) = changed_by change
input_from sent peer Confirm = Some ConfirmInput

abbrev pub input_of : Group → ℕ → Spur → Option RaftInput
input_of g peer spur = input_from g.sent peer spur

-- an event that isn't lawful changes nothing: at a peer that isn't there, or of a message that wasn't sent to it
abbrev pub at_member : Group → ℕ → Group → Group
at_member g peer then_it_is = if is_among peer g.members then then_it_is else g

abbrev pub took : Group → ℕ → Option RaftInput → Group
took g peer None = g
took g peer (Some input) = with_step g peer (stepped (g.core peer) input)

abbrev pub stopped : Group → ℕ → Option RaftInput → Bool → Group
stopped g peer None kept = g
stopped g peer (Some input) true = with_stop g peer (stepped (g.core peer) input)
stopped g peer (Some input) false = with_crash g peer

-- a peer may be placed where its id is at least 1 and was never in the group; it may be wiped where the last decided
-- configuration hasn't it
abbrev pub may_place : Group → ℕ → Bool
may_place g peer = nat_lt 0 peer && not (is_among peer g.placed)

abbrev pub may_wipe : Group → ℕ → Bool
may_wipe g peer = not (is_member peer (config_of g.decided))

-- the peer at which an event happens
abbrev pub peer_of : GroupEvent → ℕ
peer_of (Step peer spur) = peer
peer_of (StepCrash peer spur kept) = peer
peer_of (Crash peer) = peer
peer_of (Place peer) = peer
peer_of (Wipe peer) = peer

abbrev pub after : Group → GroupEvent → Group
after g (Step peer spur) = at_member g peer (took g peer (input_of g peer spur))
after g (StepCrash peer spur kept) = at_member g peer (stopped g peer (input_of g peer spur) kept)
after g (Crash peer) = at_member g peer (with_crash g peer)
after g (Place peer) = if may_place g peer then with_peer g peer else g
after g (Wipe peer) = at_member g peer (if may_wipe g peer then without_peer g peer else g)

abbrev pub run_from : Group → List GroupEvent → Group
run_from g [] = g
run_from g (event ∷ events) = run_from (after g event) events

-- the group after these events
abbrev pub run : Config → List GroupEvent → Group
run first events = run_from (start first) events
