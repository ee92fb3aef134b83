-- What an input asks of a replica: the kinds of packets and ticks are told apart here, once.
use Rattle.std.specs.Prelude.{ℕ, ◌==◌, nat_lt, not, ◌&&◌, Bool, true, false, List, [], ◌∷◌, Option, None, Some, if◌then◌else◌}
use Rattle.std.specs.List.{list_all}
use Rattle.std.specs.Option.{is_some}
use Rattle.std.specs.FinMap.{contains_key}
use Rattle.raft_log.specs.declared.entry.Entry.{Entry}
use Rattle.raft_log.specs.declared.message.RaftMsg.{RaftMsg}
use Rattle.raft_log.specs.declared.message.RaftMsg.TheVariants.{Append}
use Rattle.member_change.specs.Permit.{member_in}
use Rattle.raft_core.specs.declared.input.RaftInput.{RaftInput}
use Rattle.raft_core.specs.declared.input.RaftInput.TheVariants as raft
use Rattle.graph_model.specs.declared.call_id.CallId.{CallId}
use Rattle.graph_model.specs.declared.query.Query.{Query}
use Rattle.part_keys.specs.declared.entry.PartEntry.{PartEntry}
use Rattle.part_keys.specs.declared.entry.PartEntry.TheVariants.{Remote, Fence, Read}
use Rattle.part_keys.specs.declared.proposal.Proposal.{Proposal}
use Rattle.part_keys.specs.declared.proposal.Proposal.TheVariants.{Start, Members, Made, Blank}
use Rattle.part_keys.specs.Routing.{belongs, is_payload}
use Rattle.chain_leader.specs.declared.body.About.{About}
use Rattle.chain_leader.specs.declared.body.About.TheVariants as about
use Rattle.chain_leader.specs.declared.body.ChainBody.{ChainBody}
use Rattle.chain_leader.specs.declared.body.ChainBody.TheVariants as says
use Rattle.chain_leader.specs.Calls.{call_in}
use Rattle.chain_leader.specs.Leading.{Leading, Taken, taken, given_up}
use Rattle.replica_model.specs.declared.packet.Place.{Place}
use Rattle.replica_model.specs.declared.packet.Place.TheVariants as place
use Rattle.replica_model.specs.declared.packet.Body.{Body}
use Rattle.replica_model.specs.declared.packet.Body.TheVariants as body
use Rattle.replica_model.specs.declared.input.Tick.{Tick}
use Rattle.replica_model.specs.declared.input.Tick.TheVariants as tick
use Rattle.replica_model.specs.declared.input.Input.{Input}
use Rattle.replica_model.specs.declared.input.Input.TheVariants as input
use Rattle.part_keys.specs.Spelled.{Spelling}
use Rattle.replica_model.specs.Spelling.{value_of}
use Rattle.replica_model.specs.Replica.{Home, Replica, machine_of, leads, waits}

-- What an input asks for: nothing; that its sender is told who may lead; that a chain's hint is set; the leader's rules alone;
-- a step of the Raft peer, with what it then keeps as the leader that it is, and the sender of what it proposes, where one is
-- kept; or a step that begins a round, for a read.
pub data Asks : Type 0 where
  Nothing : Asks
  Refuses : Place → About → Asks
  Points : ℕ → ℕ → Asks
  Leads : Taken → Asks
  Raft : RaftInput → Leading → Option Place → Asks
  Reads : CallId → Query → Asks

-- A rule proposes at most one entry, and one that has a spelling; each entry of a run has one.
abbrev pub proposes : Taken → Option Place → Option (List ℕ) → Asks
proposes tk sender None = Nothing
proposes tk sender (Some bytes) = Raft (raft.Propose bytes) tk.leading sender

abbrev pub offers_all : Spelling → Taken → Option Place → List PartEntry → Asks
offers_all s tk sender [] = Leads tk
offers_all s tk sender (x ∷ []) = proposes tk sender (s.spell x)
offers_all s tk sender (x ∷ y ∷ more) = Nothing

abbrev pub offers : Spelling → Taken → Option Place → Asks
offers s tk sender = offers_all s tk sender tk.proposals

-- A tick. A call is given up at a leader; a change names a peer from 1 on.
abbrev pub asks_tick : Home → Replica → Tick → Asks
asks_tick home r (tick.Elect policy) = Raft raft.Elect r.lead None
asks_tick home r tick.Pulse = Raft raft.Pulse r.lead None
asks_tick home r (tick.GiveUp id) = if leads r then offers home.spelling (given_up r.lead id) None else Nothing
asks_tick home r (tick.Transfer peer) = Raft (raft.Transfer peer) r.lead None
asks_tick home r (tick.Change change) = if nat_lt 0 (member_in change) then Raft (raft.Change change) r.lead None else Nothing

-- A message of the own part's group. Each payload in it is an entry of this part; a Read is never one.
abbrev pub is_entry : Home → Proposal → Bool
is_entry home Start = true
is_entry home (Members config) = true
is_entry home (Made entry) = is_payload home.ids home.parts home.part entry
is_entry home Blank = false

abbrev pub are_entries : Home → List Entry → Bool
are_entries home entries = list_all (λ (entry : Entry). is_entry home (value_of home.spelling entry.item)) entries

abbrev pub may_hear : Home → RaftMsg → Bool
may_hear home (Append term previous commit round entries) = are_entries home entries
may_hear home other = true

abbrev pub asks_message : Home → Replica → Place → RaftMsg → Asks
asks_message home r (place.Client c) message = Nothing
asks_message home r (place.Peer q from) message =
    if (q == home.part) && may_hear home message then Raft (raft.Msg from message) r.lead None else Nothing

-- A Remote and a Fence come from a peer, and name its part in their entries.
abbrev pub is_peer : Place → Bool
is_peer (place.Client c) = false
is_peer (place.Peer q y) = true

abbrev pub part_from : Place → ℕ
part_from (place.Client c) = 0
part_from (place.Peer q y) = q

abbrev pub is_sender : ChainBody → Place → Bool
is_sender (says.Remote term v list) from = is_peer from
is_sender (says.Fence term v edges) from = is_peer from
is_sender other from = true

-- Something about calls and chains, at a replica that doesn't lead: where it would give an entry of this part, or asks for a
-- read of it, its sender is told who may lead.
abbrev pub told_of : Bool → About → Option About
told_of gives other = if gives then Some other else None

abbrev pub about_in : Home → Place → ChainBody → Option About
about_in home from (says.Request number x) = told_of (is_some (call_in x) && belongs home.ids home.parts home.part x) (about.Call number)
about_in home from (says.Remote term v list) = told_of (is_peer from && belongs home.ids home.parts home.part (Remote (part_from from) term v list)) (about.Chain v)
about_in home from (says.Fence term v edges) = told_of (is_peer from && belongs home.ids home.parts home.part (Fence (part_from from) term v edges)) (about.Chain v)
about_in home from other = None

abbrev pub refuses : Place → Option About → Asks
refuses from None = Nothing
refuses from (Some other) = Refuses from other

-- At a leader. A NotLeader about a chain of the table is a hint: its chain, and the peer that it names.
pub record Hint : Type 0 where
  pub chain : ℕ
  pub peer : ℕ

abbrev pub hint_about : ℕ → About → Option Hint
hint_about peer (about.Call number) = None
hint_about peer (about.Chain v) = Some (record { chain = v; peer = peer })

abbrev pub hint_in : ChainBody → Option Hint
hint_in (says.NotLeader other part peer) = hint_about peer other
hint_in other = None

abbrev pub points : Replica → Hint → Asks
points r hint = if contains_key r.lead.table hint.chain then Points hint.chain hint.peer else Nothing

-- A read of this part is taken by a ready leader, once, while it may begin a round.
pub record Reading : Type 0 where
  pub id : CallId
  pub query : Query

abbrev pub query_of : PartEntry → Option Reading
query_of (Read id query) = Some (record { id = id; query = query })
query_of other = None

abbrev pub read_in : ChainBody → Option Reading
read_in (says.Request number x) = query_of x
read_in other = None

abbrev pub may_read : Home → Replica → Reading → Bool
may_read home r asked = r.lead.ready && belongs home.ids home.parts home.part (Read asked.id asked.query) && not (waits r.rows asked.id)

abbrev pub reads : Home → Replica → Reading → Asks
reads home r asked = if may_read home r asked then Reads asked.id asked.query else Nothing

-- All else goes by what a leader does with a packet. The senders of a Remote and of a Fence alone are kept.
abbrev pub kept_sender : Place → ChainBody → Option Place
kept_sender from (says.Remote term v list) = Some from
kept_sender from (says.Fence term v edges) = Some from
kept_sender from other = None

abbrev pub takes : Home → Replica → Place → ChainBody → Asks
takes home r from said =
    if is_sender said from
    then offers home.spelling (taken home.ids home.parts home.part r.core.term (machine_of home r) r.lead said (part_from from)) (kept_sender from said)
    else Nothing

abbrev pub asks_leader : Home → Replica → Place → ChainBody → Option Hint → Option Reading → Asks
asks_leader home r from said (Some hint) read = points r hint
asks_leader home r from said None (Some read) = reads home r read
asks_leader home r from said None None = takes home r from said

abbrev pub asks_chain : Home → Replica → Place → ChainBody → Asks
asks_chain home r from said =
    if leads r then asks_leader home r from said (hint_in said) (read_in said) else refuses from (about_in home from said)

abbrev pub asks_body : Home → Replica → Place → Body → Asks
asks_body home r from (body.Raft message) = asks_message home r from message
asks_body home r from (body.Chain said) = asks_chain home r from said

abbrev pub asks : Home → Replica → Input → Asks
asks home r (input.Sent packet) = asks_body home r packet.from packet.body
asks home r (input.Tick t) = asks_tick home r t
