-- The one spelling of packets. Ids are tagged.
use Rattle.std.specs.Prelude.{ℕ, List, [], ◌∷◌, ◌++◌, Option, None, Some}
use Rattle.byte_fields.specs.Fields.{number, flag}
use Rattle.graph_bytes.specs.declared.id_form.IdForm.TheVariants.{Tagged}
use Rattle.graph_bytes.specs.Spelling.{call, view, edges, halves}
use Rattle.part_keys.specs.Spelling.{entry}
use Rattle.wal_frames.specs.Spelling.{entries}
use Rattle.graph_model.specs.declared.answer.Answer.{Answer}
use Rattle.graph_model.specs.declared.answer.Answer.TheVariants as answers
use Rattle.chain_leader.specs.declared.body.About.{About}
use Rattle.chain_leader.specs.declared.body.About.TheVariants as abouts
use Rattle.chain_leader.specs.declared.body.ChainBody.{ChainBody}
use Rattle.chain_leader.specs.declared.body.ChainBody.TheVariants as says
use Rattle.raft_log.specs.declared.mark.Mark.{Mark}
use Rattle.raft_log.specs.declared.message.RaftMsg.{RaftMsg}
use Rattle.raft_log.specs.declared.message.RaftMsg.TheVariants as messages
use Rattle.replica_model.specs.declared.packet.Place.{Place}
use Rattle.replica_model.specs.declared.packet.Place.TheVariants as places
use Rattle.replica_model.specs.declared.packet.To.{To}
use Rattle.replica_model.specs.declared.packet.To.TheVariants as ends
use Rattle.replica_model.specs.declared.packet.Body.{Body}
use Rattle.replica_model.specs.declared.packet.Body.TheVariants as bodies
use Rattle.replica_model.specs.declared.packet.Packet.{Packet}
use Rattle.packet_codec.specs.Kinds.{number_of, body_kind, client_end, peer_end, part_end, fine_answer, skipped_answer, pending_answer, cancelled_answer, conflict_answer, shown_answer, about_call, about_chain, from_start, behind_chain}

-- who sends
abbrev pub place : Place → List ℕ
place (places.Client client) = client_end ∷ number 4 client
place (places.Peer part peer) = peer_end ∷ (number 4 part ++ number 4 peer)

-- to whom
abbrev pub end : To → List ℕ
end (ends.Client client) = client_end ∷ number 4 client
end (ends.Peer part peer) = peer_end ∷ (number 4 part ++ number 4 peer)
end (ends.Part part try) = part_end ∷ (number 4 part ++ number 4 try)

-- the kind of an answer, and what it tells; an unknown one is sent by nobody
abbrev pub answer : Answer → List ℕ
answer answers.Fine = fine_answer ∷ []
answer answers.Skipped = skipped_answer ∷ []
answer answers.Pending = pending_answer ∷ []
answer answers.Cancelled = cancelled_answer ∷ []
answer (answers.Conflict id) = conflict_answer ∷ call id
answer (answers.Shown rows) = shown_answer ∷ view Tagged rows
answer answers.Unknown = []

-- what a NotLeader is about: a call's number, or a chain's
abbrev pub about : About → List ℕ
about (abouts.Call n) = about_call ∷ number 8 n
about (abouts.Chain v) = about_chain ∷ number 8 v

-- where a Resume goes on: from the start, or behind a chain
abbrev pub behind : Option ℕ → List ℕ
behind None = from_start ∷ []
behind (Some v) = behind_chain ∷ number 8 v

-- a place in a log: index, term
abbrev pub mark : Mark → List ℕ
mark m = number 8 m.index ++ number 8 m.term

-- the fields of a message of a group, the term first
abbrev pub message : RaftMsg → List ℕ
message (messages.Append term before commit round list) = number 8 term ++ mark before ++ number 8 commit ++ number 8 round ++ entries list
message (messages.Appended term ok index round) = number 8 term ++ flag ok ++ number 8 index ++ number 8 round
message (messages.Vote term last) = number 8 term ++ mark last
message (messages.Voted term granted) = number 8 term ++ flag granted
message (messages.TimeoutNow term) = number 8 term

-- the fields of what is said of calls and chains
abbrev pub said : ChainBody → List ℕ
said (says.Request n made) = number 8 n ++ entry Tagged made
said (says.Answer n given) = number 8 n ++ answer given
said (says.NotLeader of part hint) = about of ++ (number 4 part ++ number 4 hint)
said (says.Remote term v list) = number 8 term ++ number 8 v ++ halves Tagged list
said (says.Done term v) = number 8 term ++ number 8 v
said (says.Stale term v kept) = number 8 term ++ number 8 v ++ number 8 kept
said (says.Fence term v list) = number 8 term ++ number 8 v ++ edges Tagged list
said (says.Fenced term v applied) = number 8 term ++ number 8 v ++ flag applied
said (says.Resume term after) = number 8 term ++ behind after

-- the fields of what a packet says
abbrev pub body : Body → List ℕ
body (bodies.Raft m) = message m
body (bodies.Chain s) = said s

-- kind, from, to, fields
abbrev pub packet : Packet → List ℕ
packet p = number_of (body_kind p.body) ∷ (place p.from ++ end p.to ++ body p.body)
