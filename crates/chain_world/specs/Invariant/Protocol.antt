-- What holds between leaders, packets and decided lists: who may send what for a chain, and what an answer tells. Each
-- sentence speaks of the world and of what became of each chain.
use Rattle.std.specs.Prelude.{◌≡◌, ◌⊎◌, ℕ, suc, ◌<◌, ◌≤◌, List, length, take, None, Some, Bool, true, false, is_some}
use Rattle.std.specs.FinMap.{get}
use Rattle.std.specs.Map.{keys_of}
use Rattle.graph_model.specs.declared.call_id.CallId.{CallId}
use Rattle.graph_model.specs.declared.edge_id.EdgeId.{EdgeId}
use Rattle.graph_model.specs.declared.half.Half.{Half}
use Rattle.graph_model.specs.declared.op.Op.{Op}
use Rattle.graph_model.specs.declared.answer.Answer.{Answer}
use Rattle.graph_model.specs.Same.{is_unknown}
use Rattle.part_keys.specs.Routing.{routes_to}
use Rattle.part_keys.specs.declared.chain.PrimeRec.{PrimeRec}
use Rattle.part_keys.specs.declared.chain.ChainState.{ChainState}
use Rattle.part_keys.specs.declared.chain.Mode.{Mode}
use Rattle.part_keys.specs.declared.chain.Mode.TheVariants as mode
use Rattle.part_keys.specs.declared.proposal.Proposal.{Proposal}
use Rattle.part_keys.specs.declared.proposal.Proposal.TheVariants.{Start, Members, Made, Blank}
use Rattle.part_keys.specs.declared.entry.PartEntry.{PartEntry}
use Rattle.part_keys.specs.declared.entry.PartEntry.TheVariants as entry
use Rattle.part_rules.specs.declared.applied.Applied.TheVariants as told
use Rattle.part_rules.specs.Part.{guard_of}
use Rattle.part_rules.specs.Folded.{folded}
use Rattle.chain_leader.specs.declared.body.ChainBody.{ChainBody}
use Rattle.chain_leader.specs.declared.body.ChainBody.TheVariants as says
use Rattle.chain_leader.specs.Rules.{Table}
use Rattle.chain_leader.specs.Calls.{entry_of, part_of_op}
use Rattle.chain_world.specs.declared.packet.ChainEnd.{ChainEnd}
use Rattle.chain_world.specs.declared.packet.ChainEnd.TheVariants as ends
use Rattle.chain_world.specs.declared.packet.ChainPacket.{ChainPacket}
use Rattle.chain_world.specs.Places.{Among, At}
use Rattle.raft_log.specs.Decided.{count_term}
use Rattle.chain_world.specs.Course.{Aborted, Course, Courses, is_aborted}
use Rattle.chain_world.specs.Invariant.Discipline.{IsInvoked, IsRightReply, WasAnswered}
use Rattle.chain_world.specs.State.{Post, Leader, Chains, decided_of, decided_machine, made_by, packet_of}

-- The packet was sent, at whatever moment.
abbrev pub IsSent : Chains → ChainPacket → Type 0
IsSent s packet = (m : ℕ) × Among (record { packet = packet; moment = m }) s.posts

-- the leader of part p and term t has sent a Remote, or a Fence, of chain v
abbrev pub HasPut : Chains → ℕ → ℕ → ℕ → Type 0
HasPut s p t v = (to : ChainEnd) × (list : List (EdgeId × Half)) × IsSent s (packet_of (ends.Leader p t) to (says.Remote t v list))

abbrev pub HasFenced : Chains → ℕ → ℕ → ℕ → Type 0
HasFenced s p t v = (to : ChainEnd) × (edges : List EdgeId) × IsSent s (packet_of (ends.Leader p t) to (says.Fence t v edges))

-- the list has an entry of a term above t: a later leader is ready, and what the leader of t proposed won't be decided
abbrev pub IsPassed : List (ℕ × Proposal) → ℕ → Type 0
IsPassed decided t = (i : ℕ) × (e : ℕ × Proposal) × At decided i e × (t < e.0)

-- A chain wrote its in-halves, or never will because it was given up.
pub record IsClosing (k : Courses) (p v : ℕ) : Type 0 where
  pub course : Course
  pub known : k p v ≡ Some course
  pub over : (course.wrote ≡ true) ⊎ (is_aborted course.fate ≡ true)

-- A chain's in-halves are written.
pub record IsWritten (k : Courses) (p v : ℕ) : Type 0 where
  pub course : Course
  pub known : k p v ≡ Some course
  pub wrote : course.wrote ≡ true

-- A Fence of the leader of term t found the chain unwritten: no Remote of a lesser term counts any more, and where the chain
-- is written all the same, that leader's Abort is never decided.
pub record IsDenied (parts : ℕ) (s : Chains) (k : Courses) (p t v : ℕ) : Type 0 where
  pub course : Course
  pub known : k p v ≡ Some course
  pub fenced : HasFenced s p t v
  pub guarded : t ≤ guard_of (decided_machine parts s course.remote) p
  pub passed : course.wrote ≡ true → IsPassed (decided_of s p) t

-- what the answer of a Fence says
abbrev pub IsFenced : ℕ → Chains → Courses → ℕ → ℕ → ℕ → Bool → Type 0
IsFenced parts s k p t v true = IsClosing k p v
IsFenced parts s k p t v false = IsDenied parts s k p t v

-- Packets. A Remote and a Fence have a chain, with its whole list and remote part, and their leader.
pub record IsPut (s : Chains) (k : Courses) (from to : ChainEnd) (t v : ℕ) (list : List (EdgeId × Half)) : Type 0 where
  pub part : ℕ
  pub course : Course
  pub sender : from ≡ ends.Leader part t
  pub known : k part v ≡ Some course
  pub whole : list ≡ course.list
  pub receiver : to ≡ ends.Part course.remote
  pub led : is_some (s.leaders part t) ≡ true

pub record IsFence (s : Chains) (k : Courses) (from to : ChainEnd) (t v : ℕ) (edges : List EdgeId) : Type 0 where
  pub part : ℕ
  pub course : Course
  pub sender : from ≡ ends.Leader part t
  pub known : k part v ≡ Some course
  pub whole : edges ≡ keys_of course.list
  pub receiver : to ≡ ends.Part course.remote
  pub led : is_some (s.leaders part t) ≡ true

-- a Done and a Fenced tell their receiver the truth
pub record IsDone (k : Courses) (to : ChainEnd) (v : ℕ) : Type 0 where
  pub part : ℕ
  pub term : ℕ
  pub receiver : to ≡ ends.Leader part term
  pub written : IsWritten k part v

pub record IsFenceTold (parts : ℕ) (s : Chains) (k : Courses) (to : ChainEnd) (t v : ℕ) (written : Bool) : Type 0 where
  pub part : ℕ
  pub term : ℕ
  pub receiver : to ≡ ends.Leader part term
  pub fenced : IsFenced parts s k part t v written

-- The entry is that of a call that was invoked, and routes to the part.
pub record IsAsked (parts : ℕ) (s : Chains) (q : ℕ) (x : PartEntry) : Type 0 where
  pub id : CallId
  pub op : Op
  pub invoked : IsInvoked s.ledger.steps id op
  pub entry : x ≡ entry_of id op
  pub routed : routes_to parts (part_of_op parts op) (entry_of id op) ≡ true
  pub part : part_of_op parts op ≡ q

pub record IsRequest (parts : ℕ) (s : Chains) (to : ChainEnd) (x : PartEntry) : Type 0 where
  pub part : ℕ
  pub receiver : to ≡ ends.Part part
  pub asked : IsAsked parts s part x

-- an answer may be replied to its call
pub record IsAnswer (parts : ℕ) (s : Chains) (to : ChainEnd) (number : ℕ) (answer : Answer) (m : ℕ) : Type 0 where
  pub id : CallId
  pub receiver : to ≡ ends.Client id.client
  pub its : number ≡ id.number
  pub right : IsRightReply parts s.ledger id answer m
  pub known : is_unknown answer ≡ false

abbrev pub IsMeantBy : ℕ → Chains → Courses → ℕ → ChainEnd → ChainEnd → ChainBody → Type 0
IsMeantBy parts s k m from to (says.Request number x) = IsRequest parts s to x
IsMeantBy parts s k m from to (says.Answer number answer) = IsAnswer parts s to number answer m
IsMeantBy parts s k m from to (says.NotLeader about q hint) = ⊥
IsMeantBy parts s k m from to (says.Remote t v list) = IsPut s k from to t v list
IsMeantBy parts s k m from to (says.Done t v) = IsDone k to v
IsMeantBy parts s k m from to (says.Stale t v above) = Unit {0}
IsMeantBy parts s k m from to (says.Fence t v edges) = IsFence s k from to t v edges
IsMeantBy parts s k m from to (says.Fenced t v written) = IsFenceTold parts s k to t v written
IsMeantBy parts s k m from to (says.Resume t behind) = Unit {0}

abbrev pub IsMeant : ℕ → Chains → Courses → Post → Type 0
IsMeant parts s k post = IsMeantBy parts s k post.moment post.packet.from post.packet.to post.packet.body

-- Proposals. What a leader of part q and term u proposes, and so each decided entry of that term.
abbrev pub IsEntry : ℕ → Chains → Courses → ℕ → ℕ → PartEntry → Type 0
IsEntry parts s k q u (entry.Prime id list absent) = IsAsked parts s q (entry.Prime id list absent)
IsEntry parts s k q u (entry.Local v) = IsClosing k q v
IsEntry parts s k q u (entry.Double v) = Unit {0}
IsEntry parts s k q u (entry.Close v) = IsClosing k q v
IsEntry parts s k q u (entry.Abort v) = IsDenied parts s k q u v
IsEntry parts s k q u (entry.Remote p t v list) = IsSent s (packet_of (ends.Leader p t) (ends.Part q) (says.Remote t v list))
IsEntry parts s k q u (entry.Fence p t v edges) = IsSent s (packet_of (ends.Leader p t) (ends.Part q) (says.Fence t v edges))
IsEntry parts s k q u (entry.Vertex id op) = IsAsked parts s q (entry.Vertex id op)
IsEntry parts s k q u (entry.Read id query) = ⊥

abbrev pub IsProposed : ℕ → Chains → Courses → ℕ → ℕ → Proposal → Type 0
IsProposed parts s k q u Start = Unit {0}
IsProposed parts s k q u (Members config) = Unit {0}
IsProposed parts s k q u (Made x) = IsEntry parts s k q u x
IsProposed parts s k q u Blank = ⊥

-- A Fence that was answered that its chain wrote nothing is denied.
abbrev pub AreDenied : ℕ → Chains → Courses → Type 0
AreDenied parts s k = (q i u p t v : ℕ) (edges : List EdgeId) → WasAnswered parts (decided_of s q) i u (entry.Fence p t v edges) (told.Fenced false) → IsDenied parts s k p t v

-- A chain that stands behind the first n entries of its part is known; and where it was given up, then by an entry behind
-- these.
pub record IsStanding (decided : List (ℕ × Proposal)) (k : Courses) (p n v : ℕ) (rec : PrimeRec) : Type 0 where
  pub course : Course
  pub known : k p v ≡ Some course
  pub number : rec.v ≡ v
  pub list : rec.list ≡ course.list
  pub remote : rec.remote ≡ course.remote
  pub later : (u : ℕ) → course.fate ≡ Aborted u → (i : ℕ) × (e : ℕ × Proposal) × (n ≤ i) × At decided i e × (e.0 ≡ u)

-- Leaders. The sender that is kept of a proposal is a leader of the part that it came from.
pub record IsKeptSender (made : List Proposal) (n : ℕ) (sender : ChainEnd) : Type 0 where
  pub part : ℕ
  pub term : ℕ
  pub sender_is : sender ≡ ends.Leader part term
  pub of : PartEntry
  pub at : At made n (Made of)
  pub from : ((t v : ℕ) × (list : List (EdgeId × Half)) × (of ≡ entry.Remote part t v list)) ⊎ ((t v : ℕ) × (edges : List EdgeId) × (of ≡ entry.Fence part t v edges))

abbrev pub is_fence : Mode → Bool
is_fence mode.Fence = true
is_fence other = false

-- the chain's record stands behind the first n entries
abbrev pub StandsAt : ℕ → List (ℕ × Proposal) → ℕ → ℕ → PrimeRec → Type 0
StandsAt parts decided n v rec = get (folded parts (take n decided)).chains v ≡ Some rec

-- a row of a table: its record stands, with that list and remote part; and where it is fenced, it began before the no-op
pub record IsRow (parts : ℕ) (decided : List (ℕ × Proposal)) (n noop v : ℕ) (row : ChainState) : Type 0 where
  pub rec : PrimeRec
  pub standing : StandsAt parts decided n v rec
  pub list : row.list ≡ rec.list
  pub remote : row.remote ≡ rec.remote
  pub before : is_fence row.mode ≡ true → v ≤ noop

-- the chain is in the table, in a mode of this kind
abbrev pub HasRow : Table → ℕ → Bool → Type 0
HasRow table v fenced = (row : ChainState) × (get table v ≡ Some row) × (is_fence row.mode ≡ fenced)

-- A ready leader has applied its own no-op; its table has each chain that stands and for which it sent something, in that
-- mode, and each that began behind its no-op. `puts` and `fences` are the chains of which it sent a Remote, or a Fence.
pub record IsReady (parts : ℕ) (decided : List (ℕ × Proposal)) (puts fences : ℕ → Type 0) (t n : ℕ) (table : Table) : Type 0 where
  pub noop : ℕ
  pub started : At decided noop (t, Start)
  pub applied : noop < n
  pub rows : (v : ℕ) (row : ChainState) → get table v ≡ Some row → IsRow parts decided n (suc noop) v row
  pub own : (v : ℕ) (rec : PrimeRec) → StandsAt parts decided n v rec → suc noop < v → is_some (get table v) ≡ true
  pub put : (v : ℕ) → puts v → (v ≤ n) × ((rec : PrimeRec) → StandsAt parts decided n v rec → HasRow table v false)
  pub fenced : (v : ℕ) → fences v → (v ≤ suc noop) × ((rec : PrimeRec) → StandsAt parts decided n v rec → HasRow table v true)

-- one that isn't ready has sent nothing
pub record IsUnready (puts fences : ℕ → Type 0) (table : Table) : Type 0 where
  pub empty : (v : ℕ) → get table v ≡ None
  pub unput : (v : ℕ) → puts v → ⊥
  pub unfenced : (v : ℕ) → fences v → ⊥

abbrev pub IsReadyIf : ℕ → List (ℕ × Proposal) → (ℕ → Type 0) → (ℕ → Type 0) → ℕ → ℕ → Table → Bool → Type 0
IsReadyIf parts decided puts fences t n table true = IsReady parts decided puts fences t n table
IsReadyIf parts decided puts fences t n table false = IsUnready puts fences table

pub record IsLed (parts : ℕ) (s : Chains) (p t : ℕ) (l : Leader) : Type 0 where
  pub above : 0 < t
  pub within : l.applied ≤ length (decided_of s p)
  pub senders : (n : ℕ) (sender : ChainEnd) → l.senders n ≡ Some sender → IsKeptSender l.made n sender
  pub rules : IsReadyIf parts (decided_of s p) (HasPut s p t) (HasFenced s p t) t l.applied l.lead.table l.lead.ready

-- All of it.
pub record IsKept (parts : ℕ) (s : Chains) (k : Courses) : Type 0 where
  -- terms rise, and each entry is its term's next proposal
  pub rising : (p i j : ℕ) (e f : ℕ × Proposal) → At (decided_of s p) i e → At (decided_of s p) j f → i ≤ j → e.0 ≤ f.0
  pub follows : (p i : ℕ) (e : ℕ × Proposal) → At (decided_of s p) i e → At (made_by s p e.0) (count_term (take i (decided_of s p)) e.0) e.1
  -- chains
  pub standing : (p n v : ℕ) (rec : PrimeRec) → n ≤ length (decided_of s p) → StandsAt parts (decided_of s p) n v rec → IsStanding (decided_of s p) k p n v rec
  pub one_mode : (p t v : ℕ) → HasPut s p t v → HasFenced s p t v → ⊥
  pub aborted : (p v u : ℕ) (c : Course) → k p v ≡ Some c → c.fate ≡ Aborted u → (u ≤ guard_of (decided_machine parts s c.remote) p) × HasFenced s p u v
  pub unput : (p t v u : ℕ) (c : Course) → HasPut s p t v → k p v ≡ Some c → c.fate ≡ Aborted u → t < u
  -- packets, proposals, answers, leaders
  pub meant : (post : Post) → Among post s.posts → IsMeant parts s k post
  pub proposed : (p t : ℕ) (x : Proposal) → Among x (made_by s p t) → IsProposed parts s k p t x
  pub denied : AreDenied parts s k
  pub leaders : (p t : ℕ) (l : Leader) → s.leaders p t ≡ Some l → IsLed parts s p t l
