-- Where a packet leads, and what it brings.
use Rattle.std.specs.Prelude.{◌≡◌, ℕ, ℤ, Option, None, Some, true, false}
use Rattle.std.specs.Option.{option_map}
use Rattle.first_part.specs.Routing.{part_number}
use Rattle.first_graph.specs.declared.call_id.CallId.{CallId}
use Rattle.first_graph.specs.declared.half.Half.{Half}
use Rattle.first_graph.specs.declared.half.Half.TheVariants.{Here}
use Rattle.first_graph.specs.declared.query.Query.TheVariants.{Tag, Edge, Out, In, Both}
use Rattle.first_graph.specs.declared.op.Op.{Op}
use Rattle.first_graph.specs.declared.op.Op.TheVariants.{PutEdge, DelEdge, PutVertex, DelVertex, Read as ReadOp}
use Rattle.first_graph.specs.declared.answer.Answer.{Answer}
use Rattle.first_graph.specs.declared.answer.Answer.TheVariants.{Fine, Skipped as SkippedAnswer, Conflict as ConflictAnswer, Shown as ShownAnswer}
use Rattle.first_part.specs.declared.clients.Outcome.{Outcome}
use Rattle.first_part.specs.declared.clients.Outcome.TheVariants.{Open, Fine as FineThen, Skipped as SkippedThen, Conflict as ConflictThen}
use Rattle.first_part.specs.declared.entry.PartEntry.{PartEntry}
use Rattle.first_part.specs.declared.entry.PartEntry.TheVariants.{Prime, Local, Double, Close, Abort, Remote as RemoteEntry, Fence, Vertex, Read}
use Rattle.first_part.specs.declared.applied.Applied.{Applied}
use Rattle.first_part.specs.declared.applied.Applied.TheVariants.{Again, Conflict, Skipped, Begun, Settled, Done as DoneThen, Shown}
use Rattle.nebstore_app.specs.declared.packet.Place.{Place}
use Rattle.nebstore_app.specs.declared.packet.Place.TheVariants.{Client, Part}
use Rattle.nebstore_app.specs.declared.packet.Body.{Body}
use Rattle.nebstore_app.specs.declared.packet.Body.TheVariants.{Request, Answer as AnswerBody, Remote, Done}
use Rattle.nebstore_app.specs.declared.packet.Packet.{Packet}

-- the part of a vertex, of the two parts
abbrev pub part_of : ℤ → ℕ
part_of vid = part_number vid 2

-- the client of this stage
abbrev pub the_client : ℕ
the_client = 1

-- the term of the parts' leaders: each part has one replica, which leads from the start
abbrev pub the_term : ℕ
the_term = 1

abbrev pub request : CallId → ℤ → PartEntry → Packet
request id vid entry = record { from = Client id.client; to = Part (part_of vid); body = Request id.number entry }

-- the request of a call: an edge is put by a Prime at its source's part, and a vertex's edges are read at its part.
-- Nothing else is called at this stage
abbrev pub request_of : CallId → Op → Option Packet
request_of id (PutEdge e row true) = None
request_of id (PutEdge e row false) = Some (request id e.src (Prime id e (Here row) false))
request_of id (DelEdge e) = None
request_of id (PutVertex v t row absent) = None
request_of id (DelVertex v) = None
request_of id (ReadOp (Tag v t)) = None
request_of id (ReadOp (Edge e)) = None
request_of id (ReadOp (Out v types)) = Some (request id v (Read id (Out v types)))
request_of id (ReadOp (In v types)) = Some (request id v (Read id (In v types)))
request_of id (ReadOp (Both v types)) = None

-- the part that a packet is for, and the entry that this part decides and applies when the packet comes
abbrev pub entry_brought : Place → Place → Body → Option (ℕ × PartEntry)
entry_brought from (Part j) (Request n entry) = Some (j, entry)
entry_brought (Part i) (Part j) (Remote term e v half) = Some (j, RemoteEntry i term e v half)
entry_brought (Client c) (Part j) (Remote term e v half) = None
entry_brought from (Part j) (Done term e v) = Some (j, Local e v)
entry_brought from (Part j) (AnswerBody n a) = None
entry_brought from (Client c) body = None

abbrev pub entry_in : Packet → Option (ℕ × PartEntry)
entry_in p = entry_brought p.from p.to p.body

-- the answer that a packet brings, and the number of the call
abbrev pub answer_brought : Body → Option (ℕ × Answer)
answer_brought (Request n entry) = None
answer_brought (AnswerBody n a) = Some (n, a)
answer_brought (Remote term e v half) = None
answer_brought (Done term e v) = None

abbrev pub answer_in : Packet → Option (ℕ × Answer)
answer_in p = answer_brought p.body

-- the answer of a call, from a part to its client
abbrev pub answer_packet : ℕ → CallId → Answer → Packet
answer_packet j id a = record { from = Part j; to = Client id.client; body = AnswerBody id.number a }

-- the answer that was kept of a call, where it has one yet
abbrev pub kept_answer : Outcome → Option Answer
kept_answer Open = None
kept_answer FineThen = Some Fine
kept_answer SkippedThen = Some SkippedAnswer
kept_answer (ConflictThen id) = Some (ConflictAnswer id)

-- what part j sends once it has applied an entry that came from there, by the entry and its answer: the chain that
-- began goes on to the edge's destination, a written in-half is told back, and a call that is over is answered.
-- Nothing follows from the entries that no replica makes yet
abbrev pub sent : ℕ → Place → PartEntry → Applied → Option Packet
sent j from (Prime id e half absent) (Begun v) =
    Some (record { from = Part j; to = Part (part_of e.dst); body = Remote the_term e v half })
sent j from (Prime id e half absent) Skipped = Some (answer_packet j id SkippedAnswer)
sent j from (Prime id e half absent) (Conflict other) = Some (answer_packet j id (ConflictAnswer other))
sent j from (Prime id e half absent) (Again outcome) = option_map (answer_packet j id) (kept_answer outcome)
sent j from (Prime id e half absent) _ = None
sent j from (Local e v) (Settled id) = Some (answer_packet j id Fine)
sent j from (Local e v) _ = None
sent j from (RemoteEntry i term e v half) DoneThen = Some (record { from = Part j; to = from; body = Done term e v })
sent j from (RemoteEntry i term e v half) _ = None
sent j from (Read id query) (Shown asked view) = Some (answer_packet j id (ShownAnswer view))
sent j from (Read id query) _ = None
sent j from (Double e v) answer = None
sent j from (Close e v) answer = None
sent j from (Abort e v) answer = None
sent j from (Fence i term e v) answer = None
sent j from (Vertex id change) answer = None

-- the half that a Prime names; of another entry, any
abbrev pub IsSpareOf : PartEntry → Half → Type 0
IsSpareOf (Prime id e half absent) spare = spare ≡ half
IsSpareOf _ spare = Unit {0}
