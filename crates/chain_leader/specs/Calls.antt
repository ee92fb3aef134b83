-- What a client's call is to a part: its entry, its part, and its answer.
use Rattle.std.specs.Prelude.{ℕ, Bool, true, false, List, [], ◌∷◌, Option, None, Some}
use Rattle.std.specs.Option.{option_map}
use Rattle.graph_model.specs.declared.edge_id.EdgeId.{EdgeId}
use Rattle.graph_model.specs.declared.call_id.CallId.{CallId}
use Rattle.graph_model.specs.declared.answer.Answer.{Answer}
use Rattle.graph_model.specs.declared.answer.Answer.TheVariants as said
use Rattle.graph_model.specs.declared.op.Op.{Op}
use Rattle.graph_model.specs.declared.op.Op.TheVariants.{PutEdges, DelEdges, PutVertex, DelVertex, Read as ReadOp}
use Rattle.graph_model.specs.Ops.{halves_of, edges_of}
use Rattle.part_keys.specs.declared.entry.PartEntry.{PartEntry}
use Rattle.part_keys.specs.declared.entry.PartEntry.TheVariants.{Prime, Vertex, Read}
use Rattle.part_keys.specs.Routing.{part_of, part_of_query}
use Rattle.part_rules.specs.declared.kept.Outcome.{Outcome}
use Rattle.part_rules.specs.declared.kept.Outcome.TheVariants as kept
use Rattle.part_rules.specs.declared.applied.Applied.{Applied}
use Rattle.part_rules.specs.declared.applied.Applied.TheVariants.{Again, Conflict, Skipped, Settled, Doubled, Closed, Aborted, Finished}

-- the Prime of a removal: each edge is to be absent
abbrev pub removal : CallId → List EdgeId → PartEntry
removal id edges = Prime id (halves_of (DelEdges edges)) false

-- the entry of a call
abbrev pub entry_of : CallId → Op → PartEntry
entry_of id (PutEdges rows absent) = Prime id (halves_of (PutEdges rows absent)) absent
entry_of id (DelEdges edges) = removal id edges
entry_of id (PutVertex v tag row absent) = Vertex id (PutVertex v tag row absent)
entry_of id (DelVertex v) = Vertex id (DelVertex v)
entry_of id (ReadOp query) = Read id query

-- the part in which edges start, that of the first; 0 of no edge
abbrev pub part_of_edges : ℕ → List EdgeId → ℕ
part_of_edges parts [] = 0
part_of_edges parts (e ∷ edges) = part_of parts e.src

-- the part of a call: of the source of its edges, of its vertex, or of its query
abbrev pub part_of_op : ℕ → Op → ℕ
part_of_op parts (PutEdges rows absent) = part_of_edges parts (edges_of (PutEdges rows absent))
part_of_op parts (DelEdges edges) = part_of_edges parts edges
part_of_op parts (PutVertex v tag row absent) = part_of parts v
part_of_op parts (DelVertex v) = part_of parts v
part_of_op parts (ReadOp query) = part_of_query parts query

-- whether the entry is a call's that writes
abbrev pub is_write : PartEntry → Bool
is_write (Prime id list absent) = true
is_write (Vertex id op) = true
is_write other = false

-- the call of an entry, where it is one's
abbrev pub call_in : PartEntry → Option CallId
call_in (Prime id list absent) = Some id
call_in (Vertex id op) = Some id
call_in (Read id query) = Some id
call_in other = None

-- an answer to the call of an entry
abbrev pub to_caller : PartEntry → Answer → Option (CallId × Answer)
to_caller entry answer = option_map (λ id. (id, answer)) (call_in entry)

-- the answer that a kept outcome is
abbrev pub kept_answer : PartEntry → Outcome → Option (CallId × Answer)
kept_answer entry kept.Open = None
kept_answer entry kept.Fine = to_caller entry said.Fine
kept_answer entry kept.Skipped = to_caller entry said.Skipped
kept_answer entry kept.Pending = to_caller entry said.Pending
kept_answer entry kept.Cancelled = to_caller entry said.Cancelled
kept_answer entry (kept.Conflict other) = to_caller entry (said.Conflict other)

-- the answer to a client that an applied entry gives, and the call that is answered
abbrev pub answer_of : PartEntry → Applied → Option (CallId × Answer)
answer_of entry (Again outcome) = kept_answer entry outcome
answer_of entry (Conflict chain) = to_caller entry (said.Conflict chain)
answer_of entry Skipped = to_caller entry said.Skipped
answer_of entry (Settled id) = Some (id, said.Fine)
answer_of entry (Doubled id) = Some (id, said.Pending)
answer_of entry (Closed id) = Some (id, said.Fine)
answer_of entry (Aborted id) = Some (id, said.Cancelled)
answer_of entry (Finished id) = Some (id, said.Fine)
answer_of entry other = None
