-- The kinds of packets, and the first bytes of what in a packet has kinds.
use Rattle.std.specs.Prelude.{ℕ, List, [], ◌∷◌, Option, ◌==◌}
use Rattle.std.specs.List.{find}
use Rattle.chain_leader.specs.declared.body.ChainBody.{ChainBody}
use Rattle.chain_leader.specs.declared.body.ChainBody.TheVariants as says
use Rattle.raft_log.specs.declared.message.RaftMsg.{RaftMsg}
use Rattle.raft_log.specs.declared.message.RaftMsg.TheVariants as messages
use Rattle.replica_model.specs.declared.packet.Body.{Body}
use Rattle.replica_model.specs.declared.packet.Body.TheVariants as bodies
use Rattle.packet_codec.specs.declared.kind.Kind.{Kind}
use Rattle.packet_codec.specs.declared.kind.Kind.TheVariants.{Request, Answer, NotLeader, Append, Appended, Vote, Voted, TimeoutNow, Remote, Done, Stale, Fence, Fenced, Resume}

-- the number of a kind, a packet's first byte
abbrev pub number_of : Kind → ℕ
number_of Request = 1
number_of Answer = 2
number_of NotLeader = 3
number_of Append = 4
number_of Appended = 5
number_of Vote = 6
number_of Voted = 7
number_of TimeoutNow = 8
number_of Remote = 9
number_of Done = 10
number_of Stale = 11
number_of Fence = 12
number_of Fenced = 13
number_of Resume = 14

-- all kinds
abbrev pub all_kinds : List Kind
all_kinds = Request ∷ Answer ∷ NotLeader ∷ Append ∷ Appended ∷ Vote ∷ Voted ∷ TimeoutNow ∷ Remote ∷ Done ∷ Stale ∷ Fence ∷ Fenced ∷ Resume ∷ []

-- the kind of a number, if it is one
abbrev pub kind_of : ℕ → Option Kind
kind_of number = find (λ k. number == number_of k) all_kinds

-- the kind of a message of a group
abbrev pub message_kind : RaftMsg → Kind
message_kind (messages.Append term before commit round entries) = Append
message_kind (messages.Appended term ok index round) = Appended
message_kind (messages.Vote term last) = Vote
message_kind (messages.Voted term granted) = Voted
message_kind (messages.TimeoutNow term) = TimeoutNow

-- the kind of what is said of calls and chains
abbrev pub said_kind : ChainBody → Kind
said_kind (says.Request number entry) = Request
said_kind (says.Answer number answer) = Answer
said_kind (says.NotLeader about part hint) = NotLeader
said_kind (says.Remote term v list) = Remote
said_kind (says.Done term v) = Done
said_kind (says.Stale term v kept) = Stale
said_kind (says.Fence term v edges) = Fence
said_kind (says.Fenced term v applied) = Fenced
said_kind (says.Resume term behind) = Resume

-- the kind of what a packet says
abbrev pub body_kind : Body → Kind
body_kind (bodies.Raft message) = message_kind message
body_kind (bodies.Chain said) = said_kind said

-- ---- who sends, and to whom

-- a client
abbrev pub client_end : ℕ
client_end = 0

-- a peer of a part
abbrev pub peer_end : ℕ
peer_end = 1

-- whichever peer of a part stands at the place of a try
abbrev pub part_end : ℕ
part_end = 2

-- ---- answers of calls

-- it is done
abbrev pub fine_answer : ℕ
fine_answer = 1

-- the rows were there
abbrev pub skipped_answer : ℕ
skipped_answer = 2

-- it is certain, and the in-halves follow
abbrev pub pending_answer : ℕ
pending_answer = 3

-- it was not done
abbrev pub cancelled_answer : ℕ
cancelled_answer = 4

-- another call has a chain under way
abbrev pub conflict_answer : ℕ
conflict_answer = 5

-- what a query found
abbrev pub shown_answer : ℕ
shown_answer = 6

-- ---- what a NotLeader is about

-- a call
abbrev pub about_call : ℕ
about_call = 0

-- a chain
abbrev pub about_chain : ℕ
about_chain = 1

-- ---- where a Resume goes on

-- from the start
abbrev pub from_start : ℕ
from_start = 0

-- behind a chain
abbrev pub behind_chain : ℕ
behind_chain = 1
