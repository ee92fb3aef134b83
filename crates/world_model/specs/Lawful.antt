-- When an event may come. It is asked of the mail, of the event's own core, and, for a few events, of the rest of the world.
use Rattle.std.specs.Prelude.{◌≡◌, ◌≢◌, ◌⊎◌, ℕ, zero, suc, ◌<◌, ◌&&◌, not, Bool, true, false, List, [], ◌∷◌, length, slice_get, Option, None, Some, if◌then◌else◌}
use Rattle.raft_log.specs.declared.config.Config.{Config}
use Rattle.raft_log.specs.declared.record.Record.{Record}
use Rattle.raft_log.specs.Log.{no_members}
use Rattle.raft_log.specs.Majority.{is_among}
use Rattle.raft_group.specs.Group.{first_members}
use Rattle.member_change.specs.Permit.{is_member}
use Rattle.graph_model.specs.declared.answer.Answer.{Answer}
use Rattle.graph_model.specs.declared.answer.Answer.TheVariants.{Unknown}
use Rattle.graph_model.specs.declared.call_id.CallId.{CallId}
use Rattle.graph_model.specs.declared.op.Op.{Op}
use Rattle.part_keys.specs.declared.proposal.Proposal.{Proposal}
use Rattle.part_keys.specs.declared.proposal.Proposal.TheVariants.{Members}
use Rattle.chain_leader.specs.Calls.{entry_of}
use Rattle.chain_world.specs.World.{is_part, is_client, is_whole}
use Rattle.meta_parts.specs.Table.{may_write, has_peer}
use Rattle.meta_parts.specs.declared.table.MetaBody.{MetaBody}
use Rattle.meta_parts.specs.declared.table.MetaBody.TheVariants as body
use Rattle.replica_model.specs.Replica.{Home, Replica}
use Rattle.replica_model.specs.Stepped.{stepped}
use Rattle.statement_run.specs.Statement.{Asked}
use Rattle.statement_run.specs.Caller.{Caller, Open, Due, next, owes}
use Rattle.world_model.specs.declared.event.Cause.TheVariants as cause
use Rattle.world_model.specs.declared.event.Event.{Event}
use Rattle.world_model.specs.declared.event.Event.TheVariants as event
use Rattle.world_model.specs.State.{Space, home_of, Standing, Vacant, Up, Stopped, Down, Gone, Post, State, began, Site, AtClient, AtPeer, Nowhere, resolve}
use Rattle.world_model.specs.After.{packet_by, core_by, Doing, Noted, Queued}

-- 1. The mail's half. A packet that is delivered, lost, or come to a step that stopped, was sent; a lost one was neither
-- delivered nor lost before.
pub record WasSent (posts : List Post) (k : ℕ) : Type 0 where
  pub post : Post
  pub sent : slice_get posts k ≡ Some post

pub record MayLose (posts : List Post) (done : ℕ → Bool) (k : ℕ) : Type 0 where
  pub sent : k < length posts
  pub free : done k ≡ false

abbrev pub MayMail : List Post → (ℕ → Bool) → Event → Type 0
MayMail posts done (event.Deliver k) = WasSent posts k
MayMail posts done (event.Lose k) = MayLose posts done k
MayMail posts done (event.StepCrash p y (cause.Sent k)) = WasSent posts k
MayMail posts done e = Unit {0}

-- 2. The core's half, of a replica: one row an event. It is up, but for a restart, where it is down, for a creation, before
-- which it never was, and for a wipe, for which it is placed. A record can be there only of a stopped step that makes one.
abbrev pub IsUp : Standing → Type 0
IsUp x = (r : Replica) × (x ≡ Up r)

abbrev pub IsPlaced : Standing → Type 0
IsPlaced Vacant = ⊥
IsPlaced Gone = ⊥
IsPlaced x = Unit {0}

abbrev pub MayRestart : Home → Bool → Standing → Type 0
MayRestart home took (Down d) = took ≡ false
MayRestart home true (Stopped r i) = (made : Record) × ((stepped home r i).kept ≡ Some made)
MayRestart home false (Stopped r i) = Unit {0}
MayRestart home took x = ⊥

abbrev pub MayPeer : Home → Event → Standing → Type 0
MayPeer home (event.Deliver k) x = IsUp x
MayPeer home (event.Tick p y t) x = IsUp x
MayPeer home (event.Crash p y) x = IsUp x
MayPeer home (event.StepCrash p y c) x = IsUp x
MayPeer home (event.Restart p y took) x = MayRestart home took x
MayPeer home (event.Place p node y first) x = x ≡ Vacant
MayPeer home (event.Wipe p y) x = IsPlaced x
MayPeer home e x = ⊥

-- The core's half, of a client: one row an event. It makes the next call of its statements, with the next number. The call is
-- one of the space: it has 1 to 64 edges, none twice, of one pair of parts, where it has edges; and its entry has a spelling.
pub record MayInvoke (sp : Space) (caller : Caller) (id : CallId) (op : Op) : Type 0 where
  pub client : is_client id.client ≡ true
  pub parts : ℕ
  pub its : next caller ≡ Some (record { parts = parts; op = op })
  pub number : id.number ≡ suc caller.last
  pub whole : is_whole sp.ids sp.parts id op ≡ true
  pub bytes : List ℕ
  pub spelled : sp.spelling.spell (entry_of id op) ≡ Some bytes

-- Its call is open, where it is sent again.
pub record MayRepeat (caller : Caller) (c : ℕ) : Type 0 where
  pub client : is_client c ≡ true
  pub call : Open
  pub its : caller.call ≡ Some call

-- It ends with the answer that is due; or with none, behind 64 Rounds.
abbrev pub rounds_at_most : ℕ
rounds_at_most = 64

abbrev pub IsDue : Caller → Answer → Type 0
IsDue caller a = (due : Due) × (caller.due ≡ Some due) × (due.answer ≡ a)

pub record GivesUp (call : Open) (a : Answer) : Type 0 where
  pub unknown : a ≡ Unknown
  pub count : call.count ≡ rounds_at_most

pub record MayReply (caller : Caller) (id : CallId) (a : Answer) : Type 0 where
  pub client : is_client id.client ≡ true
  pub call : Open
  pub its : caller.call ≡ Some call
  pub same : call.id ≡ id
  pub ends : IsDue caller a ⊎ GivesUp call a

abbrev pub MayClient : Space → Event → Caller → Type 0
MayClient sp (event.Invoke id op) caller = MayInvoke sp caller id op
MayClient sp (event.Deliver k) caller = Unit {0}
MayClient sp (event.Round c) caller = MayRepeat caller c
MayClient sp (event.Reply id a) caller = MayReply caller id a
MayClient sp e caller = ⊥

-- Without a core: a packet is lost, or a body is written. A packet that nobody gets is lost.
abbrev pub MayNowhere : State → Event → Type 0
MayNowhere s (event.Lose k) = Unit {0}
MayNowhere s (event.Meta b) = may_write s.table b ≡ true
MayNowhere s e = ⊥

abbrev pub MayAt : Space → State → Event → Site → Type 0
MayAt sp s e (AtPeer p y) = MayPeer (home_of sp p) e (s.placed p y)
MayAt sp s e (AtClient c) = MayClient sp e (s.callers c)
MayAt sp s e Nowhere = MayNowhere s e

-- The Reply or Invoke that a client has to make next, where there is one.
abbrev pub first_call : ℕ → ℕ → Option Asked → Option Event
first_call n last None = None
first_call n last (Some asked) = Some (event.Invoke (record { client = n; number = suc last }) asked.op)

abbrev pub due_of : ℕ → Caller → Option Open → Option Due → Option Event
due_of n caller (Some call) (Some reply) = Some (event.Reply call.id reply.answer)
due_of n caller (Some call) None = None
due_of n caller None reply = first_call n caller.last (next caller)

abbrev pub due : State → ℕ → Option Event
due s n = due_of n (s.callers n) (s.callers n).call (s.callers n).due

-- 3. The rest of the world. A point is quiet where each packet was delivered or lost, and no client owes a Reply or an Invoke
-- that a Deliver or a Reply left it. The first Invoke of a statement that was queued while no call was open is due, and doesn't
-- count here.
abbrev pub all_below : ℕ → (ℕ → Bool) → Bool
all_below zero holds = true
all_below (suc n) holds = holds n && all_below n holds

abbrev pub above_clients : ℕ
above_clients = 65

abbrev pub IsQuiet : State → Type 0
IsQuiet s = (all_below (length s.posts) s.done ≡ true) × (all_below above_clients (λ c. not (owes (s.callers c))) ≡ true)

-- A packet on which a step stops comes to this replica.
abbrev pub ComesTo : State → ℕ → ℕ → Option Post → Type 0
ComesTo s p y None = ⊥
ComesTo s p y (Some post) = resolve s.table post.packet.to ≡ AtPeer p y

-- A replica is created where the table has its place, in a row or in an open task, on a node that no other placed replica
-- of the part has; one to which the last allocate body gave its id gets the part's first configuration.
abbrev pub first_for : Space → ℕ → ℕ → Option Config
first_for sp p y = if is_among y (first_members (sp.first p)) then Some (sp.first p) else None

pub record MayPlace (sp : Space) (s : State) (p node y : ℕ) (first : Option Config) : Type 0 where
  pub part : is_part sp.parts p ≡ true
  pub peer : 0 < y
  pub named : has_peer s.table p node y ≡ true
  pub alone : (z : ℕ) → IsPlaced (s.placed p z) → s.nodes p z ≢ node
  pub given : first ≡ first_for sp p y

-- One is wiped where the last configuration that its part decided hasn't it.
abbrev pub config_behind : Config → Proposal → Config
config_behind config (Members other) = other
config_behind config x = config

abbrev pub config_in : Config → List (ℕ × Proposal) → Config
config_in config [] = config
config_in config (d ∷ decided) = config_in (config_behind config d.1) decided

abbrev pub IsOut : State → ℕ → ℕ → Type 0
IsOut s p y = is_member y (config_in no_members (s.ledger.decided p)) ≡ false

-- Parts are allocated while the world is as it began, but for its table: nothing was placed, and no statement was queued.
abbrev pub MayChange : State → MetaBody → Type 0
MayChange s (body.Allocate parts factor up ids) = s ≡ began s.table
MayChange s b = Unit {0}

-- One row an event; of all others nothing is asked.
abbrev pub MayElse : Space → State → Event → Type 0
MayElse sp s (event.StepCrash p y (cause.Sent k)) = ComesTo s p y (slice_get s.posts k)
MayElse sp s (event.Place p node y first) = MayPlace sp s p node y first
MayElse sp s (event.Wipe p y) = IsOut s p y
MayElse sp s (event.Meta b) = MayChange s b
MayElse sp s (event.Round c) = IsQuiet s
MayElse sp s (event.Reply id a) = IsDue (s.callers id.client) a ⊎ IsQuiet s
MayElse sp s e = Unit {0}

pub record Lawful (sp : Space) (s : State) (e : Event) : Type 0 where
  pub mail : MayMail s.posts s.done e
  pub core : MayAt sp s e (core_by s.table e (packet_by s.posts e))
  pub rest : MayElse sp s e

-- A statement is queued by a client, where there are parts, with their number.
abbrev pub MayDo : Space → State → Doing → Type 0
MayDo sp s (Noted e) = Lawful sp s e
MayDo sp s (Queued c statement) = (is_client c ≡ true) × (0 < sp.parts) × (statement.parts ≡ sp.parts)
