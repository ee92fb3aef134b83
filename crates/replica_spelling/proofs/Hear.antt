-- What has a spelling may be heard by a replica.
use Rattle.raft_log.specs.declared.message.RaftMsg.{RaftMsg}
use Rattle.raft_log.specs.declared.message.RaftMsg.TheVariants.{Append, Appended, Vote, Voted, TimeoutNow}
use Rattle.raft_core.specs.Ahead.{IsMessage}
use Rattle.chain_leader.specs.declared.body.ChainBody.{ChainBody}
use Rattle.chain_leader.specs.declared.body.ChainBody.TheVariants as says
use Rattle.replica_model.specs.declared.packet.Place.{Place}
use Rattle.replica_model.specs.declared.packet.Place.TheVariants as places
use Rattle.replica_model.specs.declared.packet.Body.{Body}
use Rattle.replica_model.specs.declared.packet.Body.TheVariants as bodies
use Rattle.replica_model.specs.declared.packet.Packet.{Packet}
use Rattle.replica_model.specs.declared.input.Input.TheVariants as input
use Rattle.replica_state.specs.State.{IsHeardPlace, IsHeardSaid, IsHeardBody, IsHeard}
use Rattle.packet_codec.specs.Fits.{HasSpellingPlace, HasSpellingMessage, HasSpellingSaid, HasSpellingBody, HasSpelling}

place_heard : (p : Place) → HasSpellingPlace p → IsHeardPlace p
place_heard (places.Client c) is = tt
place_heard (places.Peer part peer) is = is

message_heard : (m : RaftMsg) → HasSpellingMessage m → IsMessage m
message_heard (Append term before commit round list) is = is.1
message_heard (Appended term ok index round) is = tt
message_heard (Vote term last) is = tt
message_heard (Voted term granted) is = tt
message_heard (TimeoutNow term) is = tt

said_heard : (from : Place) (s : ChainBody) → HasSpellingSaid from s → IsHeardSaid s
said_heard from (says.Request n made) is = is.1
said_heard from (says.Answer n given) is = tt
said_heard from (says.NotLeader of part hint) is = tt
said_heard from (says.Remote term v list) is = is
said_heard from (says.Done term v) is = tt
said_heard from (says.Stale term v kept) is = tt
said_heard from (says.Fence term v list) is = is
said_heard from (says.Fenced term v applied) is = tt
said_heard from (says.Resume term after) is = tt

body_heard : (from : Place) (b : Body) → HasSpellingBody from b → IsHeardBody b
body_heard from (bodies.Raft m) is = message_heard m is
body_heard from (bodies.Chain s) is = said_heard from s is

pub packet_heard : (p : Packet) → HasSpelling p → IsHeard (input.Sent p)
packet_heard p is = (place_heard p.from is.from, body_heard p.from p.body is.body)
