-- What is asked of a replica, worked by hand, as tests of the definitions. With two parts, the vertices 2 and 4 are in part 1,
-- and vertex 7 is in part 2; the replica is peer 1 of part 1.
use Rattle.std.specs.Prelude.{◌≡◌, ℕ, [], ◌∷◌, None, Some, pos}
use Rattle.std.proofs.lemmas.Option.{none-some}
use Rattle.raft_log.specs.declared.entry.Item.TheVariants.{Payload}
use Rattle.raft_log.specs.declared.message.RaftMsg.{RaftMsg}
use Rattle.raft_log.specs.declared.message.RaftMsg.TheVariants.{Append}
use Rattle.raft_log.specs.declared.role.Role.TheVariants.{Leader}
use Rattle.raft_core.specs.declared.input.RaftInput.TheVariants as raft
use Rattle.graph_model.specs.declared.op.Op.TheVariants.{DelVertex}
use Rattle.graph_model.specs.declared.query.Query.TheVariants.{Tag}
use Rattle.graph_model.specs.declared.vid.Vid.TheVariants.{Num}
use Rattle.part_keys.specs.declared.entry.PartEntry.{PartEntry}
use Rattle.part_keys.specs.declared.vid_kind.VidKind.TheVariants as kinds
use Rattle.part_keys.specs.declared.entry.PartEntry.TheVariants.{Local, Read, Vertex}
use Rattle.part_rules.specs.Worked.{both, call}
use Rattle.chain_leader.specs.declared.body.About.TheVariants as about
use Rattle.chain_leader.specs.declared.body.ChainBody.{ChainBody}
use Rattle.chain_leader.specs.declared.body.ChainBody.TheVariants as says
use Rattle.replica_model.specs.declared.packet.Place.{Place}
use Rattle.replica_model.specs.declared.packet.Place.TheVariants as place
use Rattle.replica_model.specs.declared.packet.To.TheVariants as to
use Rattle.replica_model.specs.declared.packet.Body.{Body}
use Rattle.replica_model.specs.declared.packet.Body.TheVariants as body
use Rattle.replica_model.specs.declared.input.Input.{Input}
use Rattle.replica_model.specs.declared.input.Input.TheVariants as input
use Rattle.part_keys.specs.Spelled.{Spelling}
use Rattle.replica_model.specs.Replica.{Home, Replica, created}
use Rattle.replica_model.specs.Asks.{Nothing, Refuses, Raft, asks}

-- a spelling by which any bytes spell this entry
abbrev pub spells : PartEntry → Spelling
spells x = record { spell = λ entry. None; read = λ bytes. Some x; back = λ entry bytes e. absurd (none-some bytes e) }

abbrev pub home_with : PartEntry → Home
home_with x = record { part = 1; parts = 2; ids = kinds.Num; spelling = spells x }

-- a replica that follows, and one that leads
abbrev pub follower : Replica
follower = created 1 None

abbrev pub leader : Replica
leader = record follower { core = record follower.core { role = Leader } }

abbrev pub sent : Place → Body → Input
sent from said = input.Sent (record { from = from; to = to.Peer 1 1; body = said })

abbrev pub read_alone : PartEntry
read_alone = Read (call 5 1) (Tag (Num (pos 2)) 3)

-- An Append with a Local is a message of the group; one with a Read is nothing.
abbrev pub one_payload : RaftMsg
one_payload = Append 1 (record { index = 0; term = 0 }) 0 0 (record { term = 1; item = Payload [] } ∷ [])

abbrev pub IsNoPayload : Type 0
IsNoPayload =
    (asks (home_with (Local 3)) follower (sent (place.Peer 1 2) (body.Raft one_payload)) ≡ Raft (raft.Msg 2 one_payload) follower.lead None)
    × (asks (home_with read_alone) follower (sent (place.Peer 1 2) (body.Raft one_payload)) ≡ Nothing)

-- The Request of a vertex of another part is nothing to any replica; of one of this part it is turned away where the replica
-- doesn't lead.
abbrev pub removal_of : ℕ → ChainBody
removal_of n = says.Request 1 (Vertex (call 5 1) (DelVertex (Num (pos n))))

abbrev pub IsOfNoPart : Type 0
IsOfNoPart =
    (asks (home_with (Local 3)) follower (sent (place.Client 5) (body.Chain (removal_of 7))) ≡ Nothing)
    × (asks (home_with (Local 3)) follower (sent (place.Client 5) (body.Chain (says.Request 1 (Local 3)))) ≡ Nothing)

abbrev pub IsTurnedAway : Type 0
IsTurnedAway = asks (home_with (Local 3)) follower (sent (place.Client 5) (body.Chain (removal_of 2))) ≡ Refuses (place.Client 5) (about.Call 1)

-- A Remote from a client is nothing, to a leader too; from a peer it is turned away where the replica doesn't lead.
abbrev pub IsFromNoPeer : Type 0
IsFromNoPeer =
    (asks (home_with (Local 3)) leader (sent (place.Client 5) (body.Chain (says.Remote 1 7 both))) ≡ Nothing)
    × (asks (home_with (Local 3)) follower (sent (place.Peer 2 1) (body.Chain (says.Remote 1 7 both))) ≡ Refuses (place.Peer 2 1) (about.Chain 7))
