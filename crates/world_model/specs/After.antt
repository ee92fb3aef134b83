-- What each event makes of the world. An event is about one core, a client or a replica, or about neither; what it makes of
-- this core, and what is sent, depends on nothing but the event, its packet and this core.
use Rattle.std.specs.Prelude.{ℕ, suc, map, ◌&&◌, ◌==◌, nat_lt, Bool, true, false, List, [], ◌∷◌, ◌++◌, take, drop, length, slice_get, Option, None, Some, if◌then◌else◌}
use Rattle.raft_core.specs.Core.{Core, is_leading}
use Rattle.raft_core.specs.Durable.{Durable, durable}
use Rattle.graph_model.specs.declared.op.Op.{Op}
use Rattle.part_keys.specs.declared.proposal.Proposal.{Proposal}
use Rattle.chain_world.specs.Ledger.{Ledger, invokes, decides, replies}
use Rattle.meta_parts.specs.declared.table.PartTable.{PartTable}
use Rattle.meta_parts.specs.Table.{written}
use Rattle.replica_model.specs.declared.packet.Packet.{Packet}
use Rattle.replica_model.specs.declared.input.Input.{Input}
use Rattle.replica_model.specs.declared.input.Input.TheVariants as input
use Rattle.replica_model.specs.Spelling.{values_of}
use Rattle.replica_model.specs.Replica.{Home, Replica, opened, created}
use Rattle.replica_model.specs.Stepped.{Stepped, stepped}
use Rattle.statement_run.specs.Statement.{Statement, Asked, parts_in}
use Rattle.statement_run.specs.Caller.{next, Caller, Open, Due, queued, invoked, call_of, request_of, counted, rounded, hears, replied}
use Rattle.world_model.specs.declared.event.Cause.TheVariants as cause
use Rattle.world_model.specs.declared.event.Event.{Event}
use Rattle.world_model.specs.declared.event.Event.TheVariants as event
use Rattle.world_model.specs.State.{Space, home_of, Standing, Up, Stopped, Down, Gone, Post, post_of, posted, State, now, Site, AtClient, AtPeer, Nowhere, resolve, at_one, of_one}

-- 1. Which core. The packet that an event is about:
abbrev pub packet_by : List Post → Event → Option Post
packet_by posts (event.Deliver k) = slice_get posts k
packet_by posts (event.StepCrash p y (cause.Sent k)) = slice_get posts k
packet_by posts e = None

-- the core: the client of a call, the replica that is named, and who gets the packet, by the table.
abbrev pub core_by : PartTable → Event → Option Post → Site
core_by t (event.Invoke id op) post = AtClient id.client
core_by t (event.Round c) post = AtClient c
core_by t (event.Reply id a) post = AtClient id.client
core_by t (event.Tick p y i) post = AtPeer p y
core_by t (event.Crash p y) post = AtPeer p y
core_by t (event.StepCrash p y c) post = AtPeer p y
core_by t (event.Restart p y took) post = AtPeer p y
core_by t (event.Place p node y first) post = AtPeer p y
core_by t (event.Wipe p y) post = AtPeer p y
core_by t (event.Deliver k) (Some post) = resolve t post.packet.to
core_by t e post = Nowhere

-- 2. A replica. The step that it takes, where it takes one, and its peer before. A step that stops gives the world nothing.
pub record Step : Type 0 where
  pub before : Core
  pub made : Stepped

abbrev pub step_on : Home → Replica → Input → Step
step_on home r i = record { before = r.core; made = stepped home r i }

abbrev pub step_by : Home → Event → Option Post → Standing → Option Step
step_by home (event.Deliver k) (Some post) (Up r) = Some (step_on home r (input.Sent post.packet))
step_by home (event.Tick p y t) post (Up r) = Some (step_on home r (input.Tick t))
step_by home (event.StepCrash p y (cause.Tick t)) post (Up r) = None
step_by home e post x = None

-- What it is opened with after a stopped step: what is durable, behind that step where the step's record is there.
abbrev pub left_by : Home → Replica → Input → Bool → Durable
left_by home r i true = durable (stepped home r i).replica.core
left_by home r i false = durable r.core

-- How it stands behind the event: one row an event.
abbrev pub standing_after : Home → ℕ → Event → Option Post → Standing → Standing
standing_after home y (event.Deliver k) (Some post) (Up r) = Up (stepped home r (input.Sent post.packet)).replica
standing_after home y (event.Tick p z t) post (Up r) = Up (stepped home r (input.Tick t)).replica
standing_after home y (event.Crash p z) post (Up r) = Down (durable r.core)
standing_after home y (event.StepCrash p z (cause.Tick t)) post (Up r) = Stopped r (input.Tick t)
standing_after home y (event.StepCrash p z (cause.Sent k)) (Some post) (Up r) = Stopped r (input.Sent post.packet)
standing_after home y (event.Restart p z took) post (Down d) = Up (opened y d)
standing_after home y (event.Restart p z took) post (Stopped r i) = Up (opened y (left_by home r i took))
standing_after home y (event.Place p node z first) post x = Up (created y first)
standing_after home y (event.Wipe p z) post x = Gone
standing_after home y e post x = x

-- its node, and how many of its steps stopped
abbrev pub node_after : Event → ℕ → ℕ
node_after (event.Place p node y first) n = node
node_after e n = n

abbrev pub stops_after : Event → ℕ → ℕ
stops_after (event.StepCrash p y c) n = suc n
stops_after e n = n

-- 3. A client: one row an event. What it sends is the Request of its call, routed by the number of parts of its statement.
abbrev pub asked_at : Caller → Op → Asked
asked_at c op = record { parts = parts_in (next c); op = op }

abbrev pub caller_after : Event → Option Post → Caller → Caller
caller_after (event.Invoke id op) post c = invoked c id (asked_at c op)
caller_after (event.Deliver k) (Some post) c = hears c post.packet k
caller_after (event.Round n) post c = rounded c
caller_after (event.Reply id a) post c = replied c a
caller_after e post c = c

abbrev pub asks_again : Option Open → Option Packet
asks_again None = None
asks_again (Some call) = Some (request_of (counted call))

abbrev pub caller_sends : Event → Caller → Option Packet
caller_sends (event.Invoke id op) c = Some (request_of (call_of id (asked_at c op)))
caller_sends (event.Round n) c = asks_again c.call
caller_sends e c = None

abbrev pub posts_and : List Post → Option Packet → List Post
posts_and posts None = posts
posts_and posts (Some packet) = posts ++ post_of packet ∷ []

-- 4. The mail: the packets of which a Deliver or a Lose stands behind the event. A stopped step on a packet counts as its Deliver.
abbrev pub ends : Event → ℕ → Bool
ends (event.Deliver k) j = j == k
ends (event.Lose k) j = j == k
ends (event.StepCrash p y (cause.Sent k)) j = j == k
ends e j = false

abbrev pub done_after : Event → (ℕ → Bool) → ℕ → Bool
done_after e done j = if ends e j then true else done j

-- 5. The ledger: calls and answers, and what parts decide. A part decides, one by one, the entries by which a leader's commit
-- passes what was decided.
abbrev pub decides_all : ℕ → Ledger → ℕ → List (ℕ × Proposal) → Ledger
decides_all parts l p [] = l
decides_all parts l p (d ∷ entries) = decides_all parts (decides parts l p d) p entries

abbrev pub passes : Ledger → ℕ → Core → Bool
passes l p core = is_leading core.role && nat_lt (length (l.decided p)) core.commit

abbrev pub ledger_behind : Space → Ledger → ℕ → Core → Ledger
ledger_behind sp l p core =
    if passes l p core
    then decides_all sp.parts l p (values_of sp.spelling (drop (length (l.decided p)) (take core.commit core.log)))
    else l

-- a read is of the moment of the packet that brought its answer
abbrev pub moment_at : Option Post → ℕ
moment_at None = 0
moment_at (Some post) = post.moment

abbrev pub moment_of : List Post → Option Due → ℕ
moment_of posts None = 0
moment_of posts (Some due) = moment_at (slice_get posts due.packet)

abbrev pub told : Event → List Post → Caller → Ledger → Ledger
told (event.Invoke id op) posts c l = invokes l id op
told (event.Reply id a) posts c l = replies l id a (moment_of posts c.due)
told e posts c l = l

-- 6. The table: a body that is written.
abbrev pub table_after : Event → PartTable → PartTable
table_after (event.Meta body) t = written t body
table_after e t = t

-- 7. The moments. A round begins where the replica leads behind the step and its round rose: the moment at which it was asked
-- for is the one before the step. An answer that leaves has the moment of its round.
abbrev pub begins_round : Core → Core → Bool
begins_round before behind = is_leading behind.role && nat_lt before.round behind.round

abbrev pub asked_behind : (ℕ → ℕ → ℕ → ℕ) → ℕ → ℕ → Core → Core → ℕ → ℕ → ℕ → ℕ
asked_behind asked moment p before behind q t round =
    if begins_round before behind && ((q == p) && ((t == behind.term) && (round == behind.round))) then moment else asked q t round

-- The world behind an event: its core alone changes; posts, ledger, marks and moments grow beside it. What a step adds:
abbrev pub asked_with : (ℕ → ℕ → ℕ → ℕ) → ℕ → ℕ → Option Step → ℕ → ℕ → ℕ → ℕ
asked_with asked moment p None = asked
asked_with asked moment p (Some x) = asked_behind asked moment p x.before x.made.replica.core

abbrev pub posts_with : (ℕ → ℕ → ℕ) → List Post → Option Step → List Post
posts_with asked posts None = posts
posts_with asked posts (Some x) = posts ++ map (posted (asked x.made.replica.core.term)) x.made.leaves

abbrev pub ledger_with : Space → Ledger → ℕ → Option Step → Ledger
ledger_with sp l p None = l
ledger_with sp l p (Some x) = ledger_behind sp l p x.made.replica.core

abbrev pub peer_moves : Space → State → Event → ℕ → ℕ → Option Step → Standing → State
peer_moves sp s e p y step behind = record s {
  placed = at_one s.placed p y behind;
  nodes = at_one s.nodes p y (node_after e (s.nodes p y));
  stops = at_one s.stops p y (stops_after e (s.stops p y));
  posts = posts_with (asked_with s.asked (now s) p step p) s.posts step;
  done = done_after e s.done;
  ledger = ledger_with sp s.ledger p step;
  asked = asked_with s.asked (now s) p step;
}

abbrev pub peer_after : Space → State → Event → Option Post → ℕ → ℕ → Standing → State
peer_after sp s e post p y x = peer_moves sp s e p y (step_by (home_of sp p) e post x) (standing_after (home_of sp p) y e post x)

abbrev pub client_after : Space → State → Event → Option Post → ℕ → State
client_after sp s e post c = record s {
  callers = of_one s.callers c (caller_after e post (s.callers c));
  posts = posts_and s.posts (caller_sends e (s.callers c));
  done = done_after e s.done;
  ledger = told e s.posts (s.callers c) s.ledger;
}

abbrev pub after_at : Space → State → Event → Option Post → Site → State
after_at sp s e post (AtPeer p y) = peer_after sp s e post p y (s.placed p y)
after_at sp s e post (AtClient c) = client_after sp s e post c
after_at sp s e post Nowhere = record s { table = table_after e s.table; done = done_after e s.done }

abbrev pub after : Space → State → Event → State
after sp s e = after_at sp s e (packet_by s.posts e) (core_by s.table e (packet_by s.posts e))

-- Queueing a statement is no event, but what is due depends on it.
pub data Doing : Type 0 where
  Noted : Event → Doing
  Queued : ℕ → Statement → Doing

abbrev pub done : Space → State → Doing → State
done sp s (Noted e) = after sp s e
done sp s (Queued c statement) = record s { callers = of_one s.callers c (queued (s.callers c) statement) }
