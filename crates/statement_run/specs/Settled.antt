-- A client that makes at once what it has to make: a Reply that is due, and the call that comes next.
use Rattle.std.specs.Prelude.{ℕ, suc, Option, None, Some, if◌then◌else◌}
use Rattle.std.specs.Option.{option_map}
use Rattle.graph_model.specs.declared.answer.Answer.{Answer}
use Rattle.graph_model.specs.declared.call_id.CallId.{CallId}
use Rattle.graph_model.specs.declared.op.Op.{Op}
use Rattle.replica_model.specs.declared.packet.Packet.{Packet}
use Rattle.statement_run.specs.Statement.{Asked}
use Rattle.statement_run.specs.Caller.{Open, Due, Caller, next, call_of, invoked, request_of, counted, answers, hears, hinted, replied}

-- the name of the client's next call
abbrev pub next_id : ℕ → Caller → CallId
next_id client c = record { client = client; number = suc c.last }

-- the call that comes next, where one does, is made
abbrev pub settled_by : ℕ → Caller → Option Asked → Caller
settled_by client c None = c
settled_by client c (Some asked) = invoked c (next_id client c) asked

abbrev pub settled : ℕ → Caller → Caller
settled client c = settled_by client c (next c)

-- its Invoke and its Request
abbrev pub invokes : ℕ → Caller → Option (CallId × Op)
invokes client c = option_map (λ (asked : Asked). (next_id client c, asked.op)) (next c)

abbrev pub requests : ℕ → Caller → Option Packet
requests client c = option_map (λ asked. request_of (call_of (next_id client c) asked)) (next c)

-- The open call ends with an answer, and the next one is made.
abbrev pub ended : ℕ → Caller → Answer → Caller
ended client c answer = settled client (replied c answer)

-- the open call's Reply, with an answer
abbrev pub reply_to : Option Open → Answer → Option (CallId × Answer)
reply_to call answer = option_map (λ (o : Open). (o.id, answer)) call

-- An answer that ends the open call, if one does: then its Reply is made, and the next call.
abbrev pub answered_by : ℕ → Caller → Option Answer → Caller
answered_by client c None = c
answered_by client c (Some answer) = ended client c answer

abbrev pub reply_by : Caller → Option Answer → Option (CallId × Answer)
reply_by c None = None
reply_by c (Some answer) = reply_to c.call answer

abbrev pub invokes_by : ℕ → Caller → Option Answer → Option (CallId × Op)
invokes_by client c None = None
invokes_by client c (Some answer) = invokes client (replied c answer)

abbrev pub requests_by : ℕ → Caller → Option Answer → Option Packet
requests_by client c None = None
requests_by client c (Some answer) = requests client (replied c answer)

-- the answer of the Reply that a packet of this number makes due
abbrev pub due_by : Caller → Packet → ℕ → Option Answer
due_by c packet k = option_map (λ (d : Due). d.answer) (hears c packet k).due

-- a packet: where it makes a Reply due, the Reply is made
abbrev pub went : ℕ → Caller → Packet → ℕ → Caller
went client c packet k = answered_by client (hears c packet k) (due_by c packet k)

-- an answer of a call by its number: it ends the open call where it fits it
abbrev pub due_of : Option Open → ℕ → Answer → Option Answer
due_of None number answer = None
due_of (Some call) number answer = if answers call number answer then Some answer else None

-- a NotLeader about a call: it is a hint where that call is open
abbrev pub hinted_by : Caller → Option Open → ℕ → ℕ → Caller
hinted_by c None number hint = c
hinted_by c (Some call) number hint = hinted c call number hint

-- the open call's Request, a Round later
abbrev pub repeats : Option Open → Option Packet
repeats call = option_map (λ o. request_of (counted o)) call
