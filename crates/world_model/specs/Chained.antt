-- The replicated world and the world of chains: what holds between the two.
use Rattle.std.specs.Prelude.{◌≡◌, ◌≢◌, ℕ, suc, ◌<◌, ◌≤◌, List, [], map, take, slice_get, Option, None, Some, true, false}
use Rattle.std.specs.List.{AllByRecursion}
use Rattle.raft_log.specs.declared.entry.Entry.{Entry}
use Rattle.raft_log.specs.declared.entry.Item.{Item}
use Rattle.raft_log.specs.Decided.{Leadership, count_term}
use Rattle.raft_core.specs.Core.{Core, is_leading}
use Rattle.raft_group.specs.Group.{Group, Round}
use Rattle.raft_group.specs.Facts.{StandsAt}
use Rattle.graph_model.specs.declared.answer.Answer.{Answer}
use Rattle.graph_model.specs.declared.call_id.CallId.{CallId}
use Rattle.graph_model.specs.declared.op.Op.{Op}
use Rattle.graph_model.specs.declared.query.Query.{Query}
use Rattle.graph_model.specs.State.{GraphState, start as blank_graph}
use Rattle.graph_model.specs.Run.{Run as GraphRun}
use Rattle.part_keys.specs.declared.entry.PartEntry.{PartEntry}
use Rattle.part_keys.specs.declared.entry.PartEntry.TheVariants as entry
use Rattle.part_keys.specs.declared.proposal.Proposal.{Proposal}
use Rattle.part_keys.specs.declared.proposal.Proposal.TheVariants.{Made}
use Rattle.chain_leader.specs.declared.body.ChainBody.{ChainBody}
use Rattle.chain_leader.specs.declared.body.ChainBody.TheVariants as says
use Rattle.chain_world.specs.declared.event.ChainEvent.{ChainEvent}
use Rattle.chain_world.specs.declared.packet.ChainEnd.{ChainEnd}
use Rattle.chain_world.specs.declared.packet.ChainEnd.TheVariants as ends
use Rattle.chain_world.specs.Ledger.{Ledger}
use Rattle.chain_world.specs.State.{Chains, Leader, Client, made_by, packet_of, Post as ChainPost}
use Rattle.chain_world.specs.World.{run, is_part, first_asked, request_of}
use Rattle.replica_model.specs.declared.packet.Place.{Place}
use Rattle.replica_model.specs.declared.packet.Place.TheVariants as place
use Rattle.replica_model.specs.declared.packet.To.{To}
use Rattle.replica_model.specs.declared.packet.To.TheVariants as to
use Rattle.replica_model.specs.declared.packet.Body.{Body}
use Rattle.replica_model.specs.declared.packet.Body.TheVariants as body
use Rattle.replica_model.specs.declared.input.Input.{Input}
use Rattle.replica_model.specs.declared.input.Input.TheVariants as input
use Rattle.replica_model.specs.Spelling.{value_of, values_of}
use Rattle.replica_model.specs.Replica.{Row, Replica}
use Rattle.statement_run.specs.Statement.{Running}
use Rattle.statement_run.specs.Caller.{Caller, Open, Due}
use Rattle.world_model.specs.State.{Space, Standing, Vacant, Up, Stopped, Down, Gone, Post, moment_in}
use Rattle.world_model.specs.Grouped.{Has}

-- Where a packet goes in the world of chains: an answer to its client; what is for a leader of a term, to that leader; all
-- else to the part.
abbrev pub end_in : ℕ → ChainBody → ChainEnd
end_in p (says.Done term v) = ends.Leader p term
end_in p (says.Stale term v above) = ends.Leader p term
end_in p (says.Fenced term v written) = ends.Leader p term
end_in p (says.Resume term after) = ends.Leader p term
end_in p said = ends.Part p

abbrev pub end_of : To → ChainBody → ChainEnd
end_of (to.Client c) said = ends.Client c
end_of (to.Peer p y) said = end_in p said
end_of (to.Part p tries) said = end_in p said

-- A Remote and a Fence come from the leader of the term that they name; of any other body it doesn't matter who sent it.
abbrev pub IsLeaderOf : Place → ℕ → ChainEnd → Type 0
IsLeaderOf (place.Peer q y) term from = from ≡ ends.Leader q term
IsLeaderOf (place.Client c) term from = ⊥

abbrev pub IsSender : Place → ChainBody → ChainEnd → Type 0
IsSender sender (says.Remote term v list) from = IsLeaderOf sender term from
IsSender sender (says.Fence term v edges) from = IsLeaderOf sender term from
IsSender sender said from = Unit {0}

-- its counterpart was sent there: the same words, to the same end, of the same moment
abbrev pub chain_post : ChainEnd → ChainEnd → ChainBody → ℕ → ChainPost
chain_post from whom said moment = record { packet = packet_of from whom said; moment = moment }

pub record IsMailed (posts : List ChainPost) (sender : Place) (whom : ChainEnd) (said : ChainBody) (moment : ℕ) : Type 0 where
  pub from : ChainEnd
  pub sent : IsSender sender said from
  pub there : Has posts (chain_post from whom said moment)

-- each packet about calls and chains has one, but a NotLeader
abbrev pub HasMail : List ChainPost → Place → ChainEnd → ChainBody → ℕ → Type 0
HasMail posts sender whom (says.NotLeader about part hint) moment = Unit {0}
HasMail posts sender whom said moment = IsMailed posts sender whom said moment

abbrev pub HasLike : List ChainPost → Place → To → Body → ℕ → Type 0
HasLike posts from whom (body.Raft message) moment = Unit {0}
HasLike posts from whom (body.Chain said) moment = HasMail posts from (end_of whom said) said moment

-- what comes to a replica of part p
abbrev pub HasInput : List ChainPost → ℕ → Place → Body → Type 0
HasInput posts p from (body.Raft message) = Unit {0}
HasInput posts p from (body.Chain said) = (m : ℕ) × HasMail posts from (end_in p said) said m

abbrev pub IsHeard : List ChainPost → ℕ → Input → Type 0
IsHeard posts p (input.Sent packet) = HasInput posts p packet.from packet.body
IsHeard posts p (input.Tick tick) = Unit {0}

-- The sender that a replica keeps of a Remote or a Fence is a peer of its source part; the one that the chain's leader keeps
-- is the leader that its entry names.
pub record AreSenders (from term : ℕ) (sender : Place) (known : ChainEnd) : Type 0 where
  pub peer : ℕ
  pub is : sender ≡ place.Peer from peer
  pub known_is : known ≡ ends.Leader from term

abbrev pub AreSendersOf : PartEntry → Place → ChainEnd → Type 0
AreSendersOf (entry.Remote from term v list) sender known = AreSenders from term sender known
AreSendersOf (entry.Fence from term v edges) sender known = AreSenders from term sender known
AreSendersOf x sender known = Unit {0}

abbrev pub AreSendersIn : Proposal → Place → ChainEnd → Type 0
AreSendersIn (Made x) sender known = AreSendersOf x sender known
AreSendersIn x sender known = Unit {0}

-- the sender that is kept of the entry behind the first n: the entry is of the own term, and the chain's leader keeps one of
-- the proposal with this number in its term
pub record IsKept (sp : Space) (core : Core) (senders : ℕ → Option ChainEnd) (n : ℕ) (sender : Place) : Type 0 where
  pub its : Entry
  pub there : slice_get core.log n ≡ Some its
  pub own : its.term ≡ core.term
  pub known : ChainEnd
  pub kept : senders (count_term (values_of sp.spelling (take n core.log)) core.term) ≡ Some known
  pub are : AreSendersIn (value_of sp.spelling its.item) sender known

-- A read that waits has its round in the group, at most its leader's last; where the leader knew all that was decided when
-- the round began, its answer is in the posts, with the moment of the round.
pub record IsRow (posts : List ChainPost) (rounds : List Round) (asked : ℕ → ℕ) (core : Core) (row : Row) : Type 0 where
  pub round : Round
  pub begun : Has rounds round
  pub its_term : round.term ≡ core.term
  pub its_number : round.round ≡ row.round
  pub within : row.round ≤ core.round
  pub ready : round.ready ≡ true
  pub seen : round.commit ≡ round.decided
      → (from : ChainEnd) × Has posts (chain_post from (ends.Client row.id.client) (says.Answer row.id.number row.answer) (moment_in asked row.round))

-- an entry of the own term is committed
pub record HasOwn (core : Core) : Type 0 where
  pub place : ℕ
  pub its : Entry
  pub before : place < core.commit
  pub there : slice_get core.log place ≡ Some its
  pub own : its.term ≡ core.term

-- A replica that leads a term is the chain's leader of it: the same rules kept, as much applied, the same senders.
pub record IsLeader (sp : Space) (c : Chains) (rounds : List Round) (asked : ℕ → ℕ → ℕ) (p : ℕ) (r : Replica) : Type 0 where
  pub leader : Leader
  pub is : c.leaders p r.core.term ≡ Some leader
  pub lead : leader.lead ≡ r.lead
  pub applied : leader.applied ≡ r.core.commit
  pub senders : (n : ℕ) (sender : Place) → r.senders (suc n) ≡ Some sender → IsKept sp r.core leader.senders n sender
  pub ready : r.lead.ready ≡ true → HasOwn r.core
  pub rows : AllByRecursion (IsRow c.posts rounds (asked r.core.term) r.core) r.rows

-- one that doesn't lead has nothing of a leader but a policy
pub record IsIdle (r : Replica) : Type 0 where
  pub rows : r.rows ≡ []

pub record IsReplica (sp : Space) (c : Chains) (rounds : List Round) (asked : ℕ → ℕ → ℕ) (p : ℕ) (r : Replica) : Type 0 where
  pub part : is_part sp.parts p ≡ true
  pub leads : is_leading r.core.role ≡ true → IsLeader sp c rounds asked p r
  pub follows : is_leading r.core.role ≡ false → IsIdle r

abbrev pub StandsAs : Space → Chains → Group → (ℕ → ℕ → ℕ) → ℕ → Standing → Type 0
StandsAs sp c g asked p Vacant = Unit {0}
StandsAs sp c g asked p (Up r) = IsReplica sp c g.rounds asked p r
StandsAs sp c g asked p (Stopped r i) = IsReplica sp c g.rounds asked p r × IsHeard c.posts p i
StandsAs sp c g asked p (Down d) = is_part sp.parts p ≡ true
StandsAs sp c g asked p Gone = Unit {0}

-- A client's call is the one that is open there; a Reply that is due has its packet.
pub record IsDue (posts : List ChainPost) (n number : ℕ) (a : Answer) (m : ℕ) : Type 0 where
  pub from : ChainEnd
  pub there : Has posts (chain_post from (ends.Client n) (says.Answer number a) m)

pub record HasDue (sent : List Post) (posts : List ChainPost) (n number : ℕ) (d : Due) : Type 0 where
  pub post : Post
  pub there : slice_get sent d.packet ≡ Some post
  pub is : IsDue posts n number d.answer post.moment

abbrev pub asks_of : Option Open → Option (CallId × Op)
asks_of None = None
asks_of (Some call) = Some (call.id, call.op)

pub record IsCaller (sent : List Post) (posts : List ChainPost) (n : ℕ) (caller : Caller) (client : Client) : Type 0 where
  pub last : client.last ≡ caller.last
  pub asks : client.asks ≡ asks_of caller.call
  pub named : (call : Open) → caller.call ≡ Some call → call.id.client ≡ n
  pub due : (d : Due) → caller.due ≡ Some d → (call : Open) × (caller.call ≡ Some call) × HasDue sent posts n call.id.number d

-- the number of parts by which calls are routed is the space's
pub record IsRouted (parts : ℕ) (caller : Caller) : Type 0 where
  pub queue : AllByRecursion (λ (r : Running). r.statement.parts ≡ parts) caller.queue
  pub call : (call : Open) → caller.call ≡ Some call → call.parts ≡ parts

-- What a leadership of a group made is what the chains' leader of that term has proposed.
abbrev pub HasMade : Space → Chains → ℕ → List (Leadership Item) → Type 0
HasMade sp c p leaders = (k : ℕ) (l : Leadership Item) → StandsAt leaders k l → map (value_of sp.spelling) l.made ≡ made_by c p l.term

abbrev pub HasLeaders : Chains → ℕ → List (Leadership Item) → Type 0
HasLeaders c p leaders = (k : ℕ) (l : Leadership Item) → StandsAt leaders k l → 0 < l.term → (leader : Leader) × (c.leaders p l.term ≡ Some leader)

abbrev pub HasNoOther : Chains → ℕ → List (Leadership Item) → Type 0
HasNoOther c p leaders = (t : ℕ) → ((k : ℕ) (l : Leadership Item) → StandsAt leaders k l → l.term ≢ t) → c.leaders p t ≡ None

-- With the replicas, the clients, the packets, the ledger and the groups goes one world of chains.
pub record Chained (sp : Space) (placed : ℕ → ℕ → Standing) (callers : ℕ → Caller) (posts : List Post) (ledger : Ledger) (asked : ℕ → ℕ → ℕ → ℕ) (g : ℕ → Group) (c : Chains) : Type 0 where
  pub reached : (events : List ChainEvent) × (run sp.ids sp.parts events ≡ c)
  pub ledger_is : c.ledger ≡ ledger
  pub made : (p : ℕ) → is_part sp.parts p ≡ true → HasMade sp c p (g p).leaders
  pub led : (p : ℕ) → is_part sp.parts p ≡ true → HasLeaders c p (g p).leaders
  pub unled : (p : ℕ) → HasNoOther c p (g p).leaders
  pub stand : (p y : ℕ) → StandsAs sp c (g p) (asked p) p (placed p y)
  pub calls : (n : ℕ) → IsCaller posts c.posts n (callers n) (c.clients n)
  pub routed : (n : ℕ) → IsRouted sp.parts (callers n)
  pub mail : (k : ℕ) (post : Post) → slice_get posts k ≡ Some post → HasLike c.posts post.packet.from post.packet.to post.packet.body post.moment
  pub requests : (n : ℕ) (call : Open) → (callers n).call ≡ Some call → Has c.posts (request_of sp.parts call.id call.op)

-- What the world of chains promises of each of its runs: its graph steps are a run of the graph machine, and the Requests
-- of one call ask the same.
pub record ChainFacts (c : Chains) : Type 0 where
  pub graph : GraphState
  pub refines : GraphRun blank_graph c.ledger.steps graph
  pub alike : (p : ℕ) (id : CallId) (number : ℕ) (query : Query) (from : ChainEnd) (m : ℕ)
      → Has c.posts (chain_post from (ends.Part p) (says.Request number (entry.Read id query)) m) → first_asked p id c.posts ≡ Some query
