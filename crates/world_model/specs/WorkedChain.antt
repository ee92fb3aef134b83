-- A run worked by hand: an edge is inserted. There are two parts, each of one replica on a node of its own; vertex 1 is in
-- part 2, and vertex 2 in part 1. Each state is what a doing makes of the one before.
use Rattle.std.specs.Prelude.{◌≡◌, ℕ, ◌==◌, if◌then◌else◌, List, [], ◌∷◌, ◌++◌, map, length, Option, None, Some, pos, true, false}
use Rattle.std.specs.FinMap.{empty, insert, remove}
use Rattle.raft_log.specs.declared.entry.Entry.{Entry}
use Rattle.raft_log.specs.declared.entry.Item.TheVariants as item
use Rattle.raft_log.specs.declared.role.Role.TheVariants.{Leader}
use Rattle.raft_core.specs.Core.{opened}
use Rattle.graph_model.specs.declared.answer.Answer.{Answer}
use Rattle.graph_model.specs.declared.answer.Answer.TheVariants.{Fine}
use Rattle.graph_model.specs.declared.call_id.CallId.{CallId}
use Rattle.graph_model.specs.declared.edge_id.EdgeId.{EdgeId}
use Rattle.graph_model.specs.declared.graph_step.GStep.{GStep}
use Rattle.graph_model.specs.declared.graph_step.GStep.TheVariants as step
use Rattle.graph_model.specs.declared.half.Half.{Half}
use Rattle.graph_model.specs.declared.op.Op.{Op}
use Rattle.graph_model.specs.declared.op.Op.TheVariants.{PutEdges}
use Rattle.graph_model.specs.declared.val.Val.TheVariants.{Int}
use Rattle.part_keys.specs.declared.chain.ChainState.{ChainState}
use Rattle.part_keys.specs.declared.chain.Mode.TheVariants as mode
use Rattle.part_keys.specs.declared.chain.Policy.TheVariants.{Forward}
use Rattle.part_keys.specs.declared.entry.PartEntry.TheVariants as entry
use Rattle.part_keys.specs.declared.proposal.Proposal.{Proposal}
use Rattle.part_keys.specs.declared.proposal.Proposal.TheVariants.{Start, Members, Made}
use Rattle.part_keys.specs.declared.vid_kind.VidKind.TheVariants.{Num}
use Rattle.chain_leader.specs.declared.body.ChainBody.{ChainBody}
use Rattle.chain_leader.specs.declared.body.ChainBody.TheVariants as says
use Rattle.chain_leader.specs.Rules.{Table}
use Rattle.chain_world.specs.Ledger.{Ledger, with_list}
use Rattle.meta_parts.specs.declared.table.MetaBody.TheVariants.{Allocate}
use Rattle.meta_parts.specs.declared.table.PartRow.{PartRow}
use Rattle.meta_parts.specs.declared.table.PartTable.{PartTable}
use Rattle.replica_model.specs.declared.input.Tick.TheVariants.{Elect}
use Rattle.replica_model.specs.declared.packet.Packet.{Packet}
use Rattle.replica_model.specs.declared.packet.Place.{Place}
use Rattle.replica_model.specs.declared.packet.Place.TheVariants as place
use Rattle.replica_model.specs.declared.packet.To.TheVariants as to
use Rattle.replica_model.specs.Letters.{packet_of}
use Rattle.replica_model.specs.Replica.{Replica, created, no_senders, no_hints}
use Rattle.statement_run.specs.Statement.{Statement, starting}
use Rattle.statement_run.specs.Caller.{Caller, Open, nobody, request_of}
use Rattle.world_model.specs.declared.event.Event.{Event}
use Rattle.world_model.specs.declared.event.Event.TheVariants as event
use Rattle.world_model.specs.State.{Standing, Up, State, start, at_one, of_one, post_of}
use Rattle.world_model.specs.After.{Doing, Noted, Queued, node_after, done_after}
use Rattle.world_model.specs.Journal.{Run}
use Rattle.world_model.specs.SmallSpelling.{small}
use Rattle.world_model.specs.Small.{One, edge_of, halves_of, one_spelled}
use Rattle.world_model.specs.Worked.{alone}

-- What is asked. The edge from vertex 1 to vertex 2, with a row of one number; the first call of client 5 puts it.
abbrev pub one : One
one = record { src = pos 1; etype = pos 1; rank = pos 0; dst = pos 2; value = pos 90 }

abbrev pub edge : EdgeId
edge = edge_of one

abbrev pub halves : List (EdgeId × Half)
halves = halves_of one

abbrev pub call : CallId
call = record { client = 5; number = 1 }

abbrev pub insertion : Op
insertion = PutEdges ((edge, Int (pos 90) ∷ []) ∷ []) false

-- a statement of that call alone
abbrev pub once : List Answer → Option Op
once [] = Some insertion
once (answer ∷ answers) = None

abbrev pub statement : Statement
statement = record { parts = 2; calls = once }

-- The table: peer 1 of part 1 is on node 1, peer 1 of part 2 on node 2.
abbrev pub row_of : ℕ → PartRow
row_of p = record { part = p; peers = record { peer = 1; node = p } ∷ []; next_peer = 2 }

abbrev pub two_parts : PartTable
two_parts = record { rows = row_of 1 ∷ row_of 2 ∷ []; nodes = 1 ∷ 2 ∷ []; tasks = []; factor = 1; ids = Num }

-- What stands in the logs: the first configuration, and the no-op of term 1; the chain has number 3, as its Prime is the third
-- entry of part 2.
abbrev pub begun_log : List Entry
begun_log = record { term = 0; item = item.Members alone } ∷ record { term = 1; item = item.NoOp } ∷ []

abbrev pub wrote : List ℕ → Entry
wrote bytes = record { term = 1; item = item.Payload bytes }

abbrev pub prime_bytes : List ℕ
prime_bytes = 1 ∷ 5 ∷ 1 ∷ one_spelled one

abbrev pub remote_bytes : List ℕ
remote_bytes = 2 ∷ 2 ∷ 1 ∷ 3 ∷ one_spelled one

abbrev pub local_bytes : List ℕ
local_bytes = 3 ∷ 3 ∷ []

-- A replica that is its part's one peer, and leads it in term 1: all of its log is committed.
abbrev pub lone : List Entry → Table → (ℕ → Option Place) → Replica
lone log table senders = record {
  core = record (opened 1 1 1 log) { role = Leader; commit = length log; votes = 1 ∷ []; noop = 2 };
  lead = record { ready = true; policy = Forward; table = table };
  senders = senders;
  hints = no_hints;
  rows = [];
}

abbrev pub newly : Replica
newly = lone begun_log empty no_senders

-- The chain as its leader knows it: nothing was asked of it; and behind its Local's proposal.
abbrev pub chain : ChainState
chain = record { id = call; remote = 1; list = halves; mode = mode.Put; asked = false; tries = 0; hint = 0 }

abbrev pub standing : Table
standing = insert empty 3 chain

abbrev pub ending : Table
ending = insert standing 3 (record chain { asked = true })

abbrev pub primed : Replica
primed = lone (begun_log ++ wrote prime_bytes ∷ []) standing no_senders

abbrev pub ended : Replica
ended = lone (begun_log ++ wrote prime_bytes ∷ wrote local_bytes ∷ []) (remove ending 3) no_senders

-- The leader of part 1 keeps who sent the Remote, its third entry.
abbrev pub the_sender : ℕ → Option Place
the_sender index = if index == 3 then Some (place.Peer 2 1) else None

abbrev pub written : Replica
written = lone (begun_log ++ wrote remote_bytes ∷ []) empty the_sender

-- The client: with an open call; with the answer that a packet brought; and behind the call.
abbrev pub opening : Open
opening = record { id = call; op = insertion; parts = 2; count = 0; hint = 0 }

abbrev pub asking : Caller
asking = record { queue = starting statement ∷ []; last = 1; call = Some opening; due = None; left = false }

abbrev pub heard : ℕ → Caller
heard k = record asking { due = Some (record { answer = Fine; packet = k }) }

abbrev pub finished : Caller
finished = record { queue = record { statement = statement; answers = Fine ∷ [] } ∷ []; last = 1; call = None; due = None; left = false }

-- The packets, from number 0: each new leader's Resume to itself, the Request, the Remote, its Done, and the Answer.
abbrev pub from_part : ℕ → ℕ → ChainBody → Packet
from_part p q said = packet_of p 1 (to.Peer q 1) said

abbrev pub remote_packet : Packet
remote_packet = packet_of 2 1 (to.Part 1 0) (says.Remote 1 3 halves)

abbrev pub answer_packet : Packet
answer_packet = packet_of 2 1 (to.Client 5) (says.Answer 1 Fine)

-- What an item more in a part's list makes of the ledger.
abbrev pub and_decided : Ledger → ℕ → ℕ × Proposal → List GStep → Ledger
and_decided l p d steps = record { steps = l.steps ++ steps; decided = with_list l.decided p (l.decided p ++ d ∷ []) }

abbrev pub led_by : Ledger → ℕ → Ledger
led_by l p = and_decided (and_decided l p (0, Members alone) []) p (1, Start) []

abbrev pub and_outward : Ledger → GStep → Ledger
and_outward l step = record l { steps = l.steps ++ step ∷ [] }

-- The world behind an event of a replica, by part and peer, and behind one of the client: how it stands then, what it sent, and
-- what the ledger says.
abbrev pub moved : State → Event → ℕ → ℕ → Standing → List Packet → Ledger → State
moved s e p y x packets ledger = record s {
  placed = at_one s.placed p y x;
  nodes = at_one s.nodes p y (node_after e (s.nodes p y));
  stops = at_one s.stops p y (s.stops p y);
  posts = s.posts ++ map post_of packets;
  done = done_after e s.done;
  ledger = ledger;
}

abbrev pub called : State → Event → Caller → List Packet → Ledger → State
called s e caller packets ledger = record s {
  callers = of_one s.callers 5 caller;
  posts = s.posts ++ map post_of packets;
  done = done_after e s.done;
  ledger = ledger;
}

-- two parts are allocated, of one replica each
abbrev pub e1 : Event
e1 = event.Meta (Allocate 2 1 (1 ∷ 2 ∷ []) Num)

abbrev pub s1 : State
s1 = record (start 2) { table = two_parts }

-- the replica of part 1 is created on node 1, with its first configuration
abbrev pub e2 : Event
e2 = event.Place 1 1 1 (Some alone)

abbrev pub s2 : State
s2 = moved s1 e2 1 1 (Up (created 1 (Some alone))) [] s1.ledger

-- that of part 2 on node 2
abbrev pub e3 : Event
e3 = event.Place 2 2 1 (Some alone)

abbrev pub s3 : State
s3 = moved s2 e3 2 1 (Up (created 1 (Some alone))) [] s2.ledger

-- that of part 1 is elected: its no-op is decided at once, so it is ready; its Resume to itself is packet 0
abbrev pub e4 : Event
e4 = event.Tick 1 1 (Elect Forward)

abbrev pub s4 : State
s4 = moved s3 e4 1 1 (Up newly) (from_part 1 1 (says.Resume 1 None) ∷ []) (led_by s3.ledger 1)

-- so is that of part 2; its Resume is packet 1
abbrev pub e5 : Event
e5 = event.Tick 2 1 (Elect Forward)

abbrev pub s5 : State
s5 = moved s4 e5 2 1 (Up newly) (from_part 2 2 (says.Resume 1 None) ∷ []) (led_by s4.ledger 2)

-- the statement is queued
abbrev pub s6 : State
s6 = record s5 { callers = of_one s5.callers 5 (record nobody { queue = starting statement ∷ [] }) }

-- the call is made: its Request, to part 2, is packet 2
abbrev pub e7 : Event
e7 = event.Invoke call insertion

abbrev pub s7 : State
s7 = called s6 e7 asking (request_of opening ∷ []) (and_outward s6.ledger (step.Invoke call insertion))

-- the Request comes to part 2: its Prime is decided, the chain begins, and its Remote is packet 3
abbrev pub e8 : Event
e8 = event.Deliver 2

abbrev pub s8 : State
s8 = moved s7 e8 2 1 (Up primed) (remote_packet ∷ []) (and_decided s7.ledger 2 (1, Made (entry.Prime call halves false)) (step.Begin call ∷ []))

-- the Remote comes to part 1: it is decided, the in-half is written, and its Done is packet 4
abbrev pub e9 : Event
e9 = event.Deliver 3

abbrev pub s9 : State
s9 = moved s8 e9 1 1 (Up written) (from_part 1 2 (says.Done 1 3) ∷ []) (and_decided s8.ledger 1 (1, Made (entry.Remote 2 1 3 halves)) (step.InHalf call ∷ []))

-- the Done comes to part 2: a Local is decided, the out-half is written, the chain is settled, and the Answer is packet 5
abbrev pub e10 : Event
e10 = event.Deliver 4

abbrev pub s10 : State
s10 = moved s9 e10 2 1 (Up ended) (answer_packet ∷ []) (and_decided s9.ledger 2 (1, Made (entry.Local 3)) (step.OutHalf call ∷ step.Settle call ∷ []))

-- the Answer comes to the client
abbrev pub e11 : Event
e11 = event.Deliver 5

abbrev pub s11 : State
s11 = called s10 e11 (heard 5) [] s10.ledger

-- and the call ends
abbrev pub e12 : Event
e12 = event.Reply call Fine

abbrev pub s12 : State
s12 = called s11 e12 finished [] (and_outward s11.ledger (step.Reply call Fine))

-- the doings, up to the Remote and behind it; each is lawful at its place
abbrev pub until_remote : List Doing
until_remote = Noted e1 ∷ Noted e2 ∷ Noted e3 ∷ Noted e4 ∷ Noted e5 ∷ Queued 5 statement ∷ Noted e7 ∷ Noted e8 ∷ []

abbrev pub an_insertion : List Doing
an_insertion = until_remote ++ Noted e9 ∷ Noted e10 ∷ Noted e11 ∷ Noted e12 ∷ []

abbrev pub IsInsertion : Type 0
IsInsertion = Run small (start 2) an_insertion s12

-- the graph's steps: the call begins, writes its in-half, then its out-half, settles, and is answered
abbrev pub AreItsSteps : Type 0
AreItsSteps = s12.ledger.steps ≡ step.Invoke call insertion ∷ step.Begin call ∷ step.InHalf call ∷ step.OutHalf call ∷ step.Settle call ∷ step.Reply call Fine ∷ []
