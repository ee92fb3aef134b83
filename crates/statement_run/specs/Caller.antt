-- A client.
use Rattle.std.specs.Prelude.{ℕ, suc, min, ◌==◌, ◌&&◌, ◌||◌, not, Bool, true, false, List, [], ◌∷◌, ◌++◌, Option, None, Some, if◌then◌else◌}
use Rattle.std.specs.Option.{is_some}
use Rattle.graph_model.specs.declared.answer.Answer.{Answer}
use Rattle.graph_model.specs.declared.answer.Answer.TheVariants.{Shown}
use Rattle.graph_model.specs.declared.call_id.CallId.{CallId}
use Rattle.graph_model.specs.declared.op.Op.{Op}
use Rattle.graph_model.specs.declared.op.Op.TheVariants.{Read}
use Rattle.chain_leader.specs.declared.body.About.{About}
use Rattle.chain_leader.specs.declared.body.About.TheVariants as about
use Rattle.chain_leader.specs.declared.body.ChainBody.{ChainBody}
use Rattle.chain_leader.specs.declared.body.ChainBody.TheVariants as says
use Rattle.chain_leader.specs.Calls.{entry_of, part_of_op}
use Rattle.replica_model.specs.declared.packet.Place.TheVariants as place
use Rattle.replica_model.specs.declared.packet.Body.{Body}
use Rattle.replica_model.specs.declared.packet.Body.TheVariants as body
use Rattle.replica_model.specs.declared.packet.Packet.{Packet}
use Rattle.replica_model.specs.Letters.{to_part}
use Rattle.statement_run.specs.Statement.{Statement, Running, starting, unended, Asked, next_in, told}

-- The call that is open: by how many parts it is routed, how many Rounds it had, and the peer that the last NotLeader since
-- the last send named, 0 where none did.
pub record Open : Type 0 where
  pub id : CallId
  pub op : Op
  pub parts : ℕ
  pub count : ℕ
  pub hint : ℕ

-- a Reply that is due: its answer, and the number of the packet that brought it
pub record Due : Type 0 where
  pub answer : Answer
  pub packet : ℕ

-- Its statements, the number of its last call, the open one; the Reply that is due; and whether its last Reply left it with a
-- call to make.
pub record Caller : Type 0 where
  pub queue : List Running
  pub last : ℕ
  pub call : Option Open
  pub due : Option Due
  pub left : Bool

abbrev pub nobody : Caller
nobody = record { queue = []; last = 0; call = None; due = None; left = false }

-- a statement stands last in the queue
abbrev pub queued : Caller → Statement → Caller
queued c statement = record c { queue = c.queue ++ starting statement ∷ [] }

-- the next call, where none is open
abbrev pub next_from : List Running → Option Open → Option Asked
next_from queue None = next_in queue
next_from queue (Some call) = None

abbrev pub next : Caller → Option Asked
next c = next_from c.queue c.call

-- Whether a Deliver or a Reply left it a Reply or an Invoke to make. The first call of a statement that was queued while no
-- call was open is to be made too, but nothing left it.
abbrev pub owes : Caller → Bool
owes c = is_some c.due || c.left

-- the call begins: it has the next number, and its statement runs
abbrev pub call_of : CallId → Asked → Open
call_of id asked = record { id = id; op = asked.op; parts = asked.parts; count = 0; hint = 0 }

abbrev pub invoked : Caller → CallId → Asked → Caller
invoked c id asked = record c { queue = unended c.queue; last = id.number; call = Some (call_of id asked); left = false }

-- its Request, to the peer that was named or else by the count of Rounds
abbrev pub request_of : Open → Packet
request_of call = record {
  from = place.Client call.id.client;
  to = to_part (part_of_op call.parts call.op) call.count call.hint;
  body = body.Chain (says.Request call.id.number (entry_of call.id call.op));
}

-- A Round: the open call is sent again, by a count that is one more, up to the greatest that a packet can have; the hint is
-- used up.
abbrev pub most_rounds : ℕ
most_rounds = 4294967295

abbrev pub counted : Open → Open
counted call = record call { count = min (suc call.count) most_rounds }

abbrev pub rounded_from : Caller → Option Open → Caller
rounded_from c None = c
rounded_from c (Some call) = record c { call = Some (record (counted call) { hint = 0 }) }

abbrev pub rounded : Caller → Caller
rounded c = rounded_from c c.call

-- an Answer of the open call, Shown for a read and not Shown for another call, makes its Reply due
abbrev pub is_shown : Answer → Bool
is_shown (Shown view) = true
is_shown other = false

abbrev pub is_read : Op → Bool
is_read (Read query) = true
is_read other = false

abbrev pub fits : Answer → Op → Bool
fits answer op = if is_read op then is_shown answer else not (is_shown answer)

abbrev pub answers : Open → ℕ → Answer → Bool
answers call number answer = (number == call.id.number) && fits answer call.op

-- a NotLeader about the open call is a hint
abbrev pub hinted : Caller → Open → ℕ → ℕ → Caller
hinted c call number hint = if number == call.id.number then record c { call = Some (record call { hint = hint }) } else c

abbrev pub hinted_of : Caller → Open → About → ℕ → Caller
hinted_of c call (about.Call number) hint = hinted c call number hint
hinted_of c call (about.Chain v) hint = c

abbrev pub hears_of : Caller → Open → ℕ → ChainBody → Caller
hears_of c call k (says.Answer number answer) = if answers call number answer then record c { due = Some (record { answer = answer; packet = k }) } else c
hears_of c call k (says.NotLeader other part hint) = hinted_of c call other hint
hears_of c call k other = c

-- A packet, and its number. While a Reply is due, or no call is open, it changes nothing.
abbrev pub hears_by : Caller → Option Open → Option Due → ℕ → Body → Caller
hears_by c (Some call) None k (body.Chain said) = hears_of c call k said
hears_by c (Some call) None k (body.Raft message) = c
hears_by c (Some call) (Some due) k b = c
hears_by c None due k b = c

abbrev pub hears : Caller → Packet → ℕ → Caller
hears c packet k = hears_by c c.call c.due k packet.body

-- the call ends with an answer; its statement goes by it
abbrev pub replied : Caller → Answer → Caller
replied c answer = record c { queue = told answer c.queue; call = None; due = None; left = is_some (next_in (told answer c.queue)) }
