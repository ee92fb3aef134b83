-- What has a spelling: `HasSpelling` says what the types of the numbers don't say already, which is all that whoever writes
-- a packet has to know; `Fits` says the ranges of the numbers too.
use Rattle.std.specs.Prelude.{◌≡◌, ◌==◌, ◌&&◌, ℕ, ◌<◌, ◌≤◌, ◌^◌, Bool, true, false, List, length, Option, None, Some}
use Rattle.graph_bytes.specs.declared.id_form.IdForm.TheVariants.{Tagged}
use Rattle.graph_bytes.specs.Fits.{IsSmall, HasSpellingEdges, HasSpellingHalves, HasSpellingView, FitsCall, FitsEdges, FitsHalves, FitsView}
use Rattle.part_keys.specs.Fits as entry
use Rattle.part_keys.specs.declared.entry.PartEntry.{PartEntry}
use Rattle.part_keys.specs.declared.entry.PartEntry.TheVariants.{Prime, Local, Double, Close, Abort, Remote, Fence, Vertex, Read}
use Rattle.raft_core.specs.Appends.{most_entries}
use Rattle.raft_log.specs.Config.{AreEntries}
use Rattle.wal_frames.specs.Spelling.{FitEntries}
use Rattle.graph_model.specs.declared.answer.Answer.{Answer}
use Rattle.graph_model.specs.declared.answer.Answer.TheVariants as answers
use Rattle.graph_model.specs.declared.call_id.CallId.{CallId}
use Rattle.chain_leader.specs.declared.body.About.{About}
use Rattle.chain_leader.specs.declared.body.About.TheVariants as abouts
use Rattle.chain_leader.specs.declared.body.ChainBody.{ChainBody}
use Rattle.chain_leader.specs.declared.body.ChainBody.TheVariants as says
use Rattle.raft_log.specs.declared.entry.Entry.{Entry}
use Rattle.raft_log.specs.declared.mark.Mark.{Mark}
use Rattle.raft_log.specs.declared.message.RaftMsg.{RaftMsg}
use Rattle.raft_log.specs.declared.message.RaftMsg.TheVariants as messages
use Rattle.replica_model.specs.declared.packet.Place.{Place}
use Rattle.replica_model.specs.declared.packet.Place.TheVariants as places
use Rattle.replica_model.specs.declared.packet.To.{To}
use Rattle.replica_model.specs.declared.packet.To.TheVariants as ends
use Rattle.replica_model.specs.declared.packet.Body.{Body}
use Rattle.replica_model.specs.declared.packet.Body.TheVariants as bodies
use Rattle.replica_model.specs.declared.packet.Packet.{Packet}

-- ---- the entry of a Request

-- the client that sends
abbrev pub is_sender : Place → ℕ → Bool
is_sender (places.Client client) id = id == client
is_sender (places.Peer part peer) id = false

-- the sender's call of this number
abbrev pub is_call : Place → ℕ → CallId → Bool
is_call from n id = is_sender from id.client && (id.number == n)

-- what the sender may ask for by this number: a Prime, a Vertex or a Read of that call; clients ask, peers don't
abbrev pub may_ask : Place → ℕ → PartEntry → Bool
may_ask from n (Prime id list absent) = is_call from n id
may_ask from n (Vertex id made) = is_call from n id
may_ask from n (Read id query) = is_call from n id
may_ask from n (Local v) = false
may_ask from n (Double v) = false
may_ask from n (Close v) = false
may_ask from n (Abort v) = false
may_ask from n (Remote source term v list) = false
may_ask from n (Fence source term v list) = false

-- ---- what has a spelling, by what the types of the numbers don't say

-- who sends: clients and parts are 1 to 64
abbrev pub HasSpellingPlace : Place → Type 0
HasSpellingPlace (places.Client client) = IsSmall client
HasSpellingPlace (places.Peer part peer) = IsSmall part

-- to whom
abbrev pub HasSpellingEnd : To → Type 0
HasSpellingEnd (ends.Client client) = IsSmall client
HasSpellingEnd (ends.Peer part peer) = IsSmall part
HasSpellingEnd (ends.Part part try) = IsSmall part

-- an answer that is sent
abbrev pub HasSpellingAnswer : Answer → Type 0
HasSpellingAnswer answers.Fine = Unit {0}
HasSpellingAnswer answers.Skipped = Unit {0}
HasSpellingAnswer answers.Pending = Unit {0}
HasSpellingAnswer answers.Cancelled = Unit {0}
HasSpellingAnswer (answers.Conflict id) = IsSmall id.client
HasSpellingAnswer (answers.Shown rows) = HasSpellingView Tagged rows
HasSpellingAnswer answers.Unknown = ⊥

-- at most 64 entries, their configurations ones
abbrev pub AreFew : List Entry → Type 0
AreFew list = (length list ≤ most_entries) × AreEntries list

-- a message of a group
abbrev pub HasSpellingMessage : RaftMsg → Type 0
HasSpellingMessage (messages.Append term before commit round list) = AreFew list
HasSpellingMessage (messages.Appended term ok index round) = Unit {0}
HasSpellingMessage (messages.Vote term last) = Unit {0}
HasSpellingMessage (messages.Voted term granted) = Unit {0}
HasSpellingMessage (messages.TimeoutNow term) = Unit {0}

-- what is said of calls and chains
abbrev pub HasSpellingSaid : Place → ChainBody → Type 0
HasSpellingSaid from (says.Request n made) = (may_ask from n made ≡ true) × entry.HasSpelling Tagged made
HasSpellingSaid from (says.Answer n given) = HasSpellingAnswer given
HasSpellingSaid from (says.NotLeader of part hint) = IsSmall part
HasSpellingSaid from (says.Remote term v list) = HasSpellingHalves Tagged list
HasSpellingSaid from (says.Done term v) = Unit {0}
HasSpellingSaid from (says.Stale term v kept) = Unit {0}
HasSpellingSaid from (says.Fence term v list) = HasSpellingEdges Tagged list
HasSpellingSaid from (says.Fenced term v applied) = Unit {0}
HasSpellingSaid from (says.Resume term after) = Unit {0}

-- what a packet says
abbrev pub HasSpellingBody : Place → Body → Type 0
HasSpellingBody from (bodies.Raft m) = HasSpellingMessage m
HasSpellingBody from (bodies.Chain s) = HasSpellingSaid from s

-- a packet
pub record HasSpelling (p : Packet) : Type 0 where
  pub from : HasSpellingPlace p.from
  pub to : HasSpellingEnd p.to
  pub body : HasSpellingBody p.from p.body

-- ---- the same, with the ranges of the numbers

-- a part, and a number of 4 bytes
abbrev pub FitsAt : ℕ → ℕ → Type 0
FitsAt part n = IsSmall part × (n < 2 ^ 32)

-- who sends
abbrev pub FitsPlace : Place → Type 0
FitsPlace (places.Client client) = IsSmall client
FitsPlace (places.Peer part peer) = FitsAt part peer

-- to whom
abbrev pub FitsEnd : To → Type 0
FitsEnd (ends.Client client) = IsSmall client
FitsEnd (ends.Peer part peer) = FitsAt part peer
FitsEnd (ends.Part part try) = FitsAt part try

-- an answer
abbrev pub FitsAnswer : Answer → Type 0
FitsAnswer answers.Fine = Unit {0}
FitsAnswer answers.Skipped = Unit {0}
FitsAnswer answers.Pending = Unit {0}
FitsAnswer answers.Cancelled = Unit {0}
FitsAnswer (answers.Conflict id) = FitsCall id
FitsAnswer (answers.Shown rows) = FitsView Tagged rows
FitsAnswer answers.Unknown = ⊥

-- what a NotLeader is about
abbrev pub FitsAbout : About → Type 0
FitsAbout (abouts.Call n) = n < 2 ^ 64
FitsAbout (abouts.Chain v) = v < 2 ^ 64

-- where a Resume goes on
abbrev pub FitsBehind : Option ℕ → Type 0
FitsBehind None = Unit {0}
FitsBehind (Some v) = v < 2 ^ 64

-- a place in a log
abbrev pub FitsMark : Mark → Type 0
FitsMark m = (m.index < 2 ^ 64) × (m.term < 2 ^ 64)

-- at most 64 entries
abbrev pub FitFew : List Entry → Type 0
FitFew list = (length list ≤ most_entries) × FitEntries list

-- a message of a group
abbrev pub FitsMessage : RaftMsg → Type 0
FitsMessage (messages.Append term before commit round list) = (term < 2 ^ 64) × (FitsMark before × ((commit < 2 ^ 64) × ((round < 2 ^ 64) × FitFew list)))
FitsMessage (messages.Appended term ok index round) = (term < 2 ^ 64) × ((index < 2 ^ 64) × (round < 2 ^ 64))
FitsMessage (messages.Vote term last) = (term < 2 ^ 64) × FitsMark last
FitsMessage (messages.Voted term granted) = term < 2 ^ 64
FitsMessage (messages.TimeoutNow term) = term < 2 ^ 64

-- a term, and a chain
abbrev pub FitsChain : ℕ → ℕ → Type 0
FitsChain term v = (term < 2 ^ 64) × (v < 2 ^ 64)

-- what is said of calls and chains
abbrev pub FitsSaid : Place → ChainBody → Type 0
FitsSaid from (says.Request n made) = (n < 2 ^ 64) × ((may_ask from n made ≡ true) × entry.Fits Tagged made)
FitsSaid from (says.Answer n given) = (n < 2 ^ 64) × FitsAnswer given
FitsSaid from (says.NotLeader of part hint) = FitsAbout of × FitsAt part hint
FitsSaid from (says.Remote term v list) = FitsChain term v × FitsHalves Tagged list
FitsSaid from (says.Done term v) = FitsChain term v
FitsSaid from (says.Stale term v kept) = FitsChain term v × (kept < 2 ^ 64)
FitsSaid from (says.Fence term v list) = FitsChain term v × FitsEdges Tagged list
FitsSaid from (says.Fenced term v applied) = FitsChain term v
FitsSaid from (says.Resume term after) = (term < 2 ^ 64) × FitsBehind after

-- what a packet says
abbrev pub FitsBody : Place → Body → Type 0
FitsBody from (bodies.Raft m) = FitsMessage m
FitsBody from (bodies.Chain s) = FitsSaid from s

-- a packet
pub record Fits (p : Packet) : Type 0 where
  pub from : FitsPlace p.from
  pub to : FitsEnd p.to
  pub body : FitsBody p.from p.body
