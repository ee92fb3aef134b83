-- A call under another name.
use Rattle.graph_model.specs.declared.call_id.CallId.{CallId}
use Rattle.part_keys.specs.declared.entry.PartEntry.{PartEntry}
use Rattle.part_keys.specs.declared.entry.PartEntry.TheVariants.{Prime, Vertex, Read}
use Rattle.chain_leader.specs.declared.body.ChainBody.{ChainBody}
use Rattle.chain_leader.specs.declared.body.ChainBody.TheVariants as says
use Rattle.replica_model.specs.declared.packet.Body.{Body}
use Rattle.replica_model.specs.declared.packet.Body.TheVariants as body
use Rattle.replica_model.specs.declared.packet.Packet.{Packet}
use Rattle.replica_model.specs.declared.packet.Place.TheVariants as place

-- its entry
abbrev pub named : CallId → PartEntry → PartEntry
named id (Prime old list absent) = Prime id list absent
named id (Vertex old op) = Vertex id op
named id (Read old query) = Read id query
named id other = other

-- its Request
abbrev pub chain_named : CallId → Packet → ChainBody → Packet
chain_named id packet (says.Request number entry) = record packet { from = place.Client id.client; body = body.Chain (says.Request id.number (named id entry)) }
chain_named id packet other = packet

abbrev pub body_named : CallId → Packet → Body → Packet
body_named id packet (body.Chain said) = chain_named id packet said
body_named id packet (body.Raft message) = packet

abbrev pub packet_named : CallId → Packet → Packet
packet_named id packet = body_named id packet packet.body
