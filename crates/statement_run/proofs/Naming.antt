-- A call under another name.
use Rattle.std.proofs.Common.{◌≡◌, refl, ap, ◌∙◌}
use Rattle.graph_model.specs.declared.call_id.CallId.{CallId}
use Rattle.graph_model.specs.declared.op.Op.{Op}
use Rattle.graph_model.specs.declared.op.Op.TheVariants.{PutEdges, DelEdges, PutVertex, DelVertex, Read}
use Rattle.part_keys.specs.declared.entry.PartEntry.{PartEntry}
use Rattle.chain_leader.specs.Calls.{entry_of, part_of_op}
use Rattle.chain_leader.specs.declared.body.ChainBody.TheVariants as says
use Rattle.replica_model.specs.declared.packet.Body.TheVariants as body
use Rattle.replica_model.specs.declared.packet.Packet.{Packet}
use Rattle.replica_model.specs.declared.packet.Place.TheVariants as place
use Rattle.replica_model.specs.Letters.{to_part}
use Rattle.statement_run.specs.Statement.{Asked}
use Rattle.statement_run.specs.Caller.{Open, call_of, request_of}
use Rattle.statement_run.specs.Named.{named, packet_named}
use Rattle.statement_run.specs.Call.{Begins, unnamed}
use Rattle.statement_run.specs.declared.call.Begun.{Begun}

entry_named : (id old : CallId) (op : Op) → named id (entry_of old op) ≡ entry_of id op
entry_named id old (PutEdges rows absent) = refl
entry_named id old (DelEdges edges) = refl
entry_named id old (PutVertex v tag row absent) = refl
entry_named id old (DelVertex v) = refl
entry_named id old (Read query) = refl

abbrev request_with : CallId → Asked → PartEntry → Packet
request_with id asked entry = record { from = place.Client id.client; to = to_part (part_of_op asked.parts asked.op) 0 0; body = body.Chain (says.Request id.number entry) }

request_named : (id old : CallId) (asked : Asked) → packet_named id (request_of (call_of old asked)) ≡ request_of (call_of id asked)
request_named id old asked = ap (request_with id asked) (entry_named id old asked.op)

pub names : (id : CallId) (asked : Asked) (b : Begun) → Begins unnamed asked b
    → Begins id asked (record { call = record b.call { id = id }; invoke = record b.invoke { id = id }; packet = packet_named id b.packet })
names id asked b h = record {
  call = ap (λ (o : Open). record o { id = id }) h.call;
  invoke = ap (λ (p : CallId × Op). (id, p.1)) h.invoke;
  packet = ap (packet_named id) h.packet ∙ request_named id unnamed asked;
}
