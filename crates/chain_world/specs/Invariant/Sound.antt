-- What holds of a ledger in each state: the graph that its steps lead to is what the parts' machines have.
use Rattle.std.specs.Prelude.{◌≢◌, ◌≤◌, take, ◌≡◌, ◌⊎◌, ℕ, ◌<◌, List, Option, None, Some, true, false}
use Rattle.std.specs.FinMap.{get}
use Rattle.graph_model.specs.declared.answer.Answer.{Answer}
use Rattle.graph_model.specs.declared.answer.Answer.TheVariants as said
use Rattle.graph_model.specs.declared.call.Call.{Call}
use Rattle.graph_model.specs.declared.call.CallState.TheVariants.{Open, Begun, Done}
use Rattle.graph_model.specs.declared.call_id.CallId.{CallId}
use Rattle.graph_model.specs.declared.chain.Chain.{Chain}
use Rattle.graph_model.specs.declared.edge_id.EdgeId.{EdgeId}
use Rattle.graph_model.specs.declared.half.Half.{Half}
use Rattle.graph_model.specs.declared.op.Op.{Op}
use Rattle.graph_model.specs.declared.in_key.InKey.{InKey}
use Rattle.graph_model.specs.declared.tag_key.TagKey.{TagKey}
use Rattle.graph_model.specs.declared.graph_step.GStep.{GStep}
use Rattle.graph_model.specs.Contents.{Contents}
use Rattle.graph_model.specs.Lookups.{holds_of, is_right}
use Rattle.graph_model.specs.Ops.{query_of, is_op}
use Rattle.graph_model.specs.State.{GraphState, start}
use Rattle.graph_model.specs.Run.{Run}
use Rattle.part_keys.specs.declared.entry.PartEntry.{PartEntry}
use Rattle.part_keys.specs.declared.entry.PartEntry.TheVariants.{Remote, Fence}
use Rattle.part_keys.specs.Routing.{part_of}
use Rattle.part_rules.specs.declared.applied.Applied.{Applied}
use Rattle.part_rules.specs.declared.applied.Applied.TheVariants as answered
use Rattle.part_rules.specs.declared.kept.Kept.{Kept}
use Rattle.part_rules.specs.declared.kept.Outcome.{Outcome}
use Rattle.part_rules.specs.declared.kept.Outcome.TheVariants as kept
use Rattle.part_rules.specs.Part.{Part, number_of}
use Rattle.chain_leader.specs.Calls.{part_of_op, answer_of}
use Rattle.chain_world.specs.Ledger.{Ledger, machine_of, caller_of, next_of}
pub use Rattle.chain_world.specs.Edges.{row_at}
use Rattle.chain_world.specs.Course.{Course, Courses, stands, is_doubled, is_aborted, prime_of}
use Rattle.chain_world.specs.Invariant.ChainFacts.{AreChains}
use Rattle.chain_world.specs.Invariant.Discipline.{IsInvoked, IsReplied, WasAnswered}

-- The graph has the rows of tags and the halves that the parts have: each is kept by the part of its vertex.
pub record AreHalves (parts : ℕ) (machine : ℕ → Part) (c : Contents) : Type 0 where
  pub tags : (t : TagKey) → get c.verts t ≡ get (machine (part_of parts t.vid)).tags t
  pub out : (e : EdgeId) → get c.out e ≡ get (machine (part_of parts e.src)).out e
  pub inn : (q : InKey) → get c.inn q ≡ row_at (get (machine (part_of parts q.dst)).inn q)

-- the number that the in-half of an edge keeps
abbrev pub kept_of : ℕ → (ℕ → Part) → EdgeId → ℕ
kept_of parts machine e = number_of (machine (part_of parts e.dst)) e

-- a part's machine keeps exactly the chains of the part that stand
abbrev pub AreKept : (ℕ → Part) → Courses → Type 0
AreKept machine k = (p v : ℕ) → get (machine p).chains v ≡ prime_of v (k p v)

-- what the graph has of a chain that stands
abbrev pub chain_of : Course → Chain
chain_of c = record { list = c.list; in_done = c.wrote; out_done = is_doubled c.fate }

-- the call of a chain that stands: it is begun, shown where the chain is doubled, and of the chain's source part
pub record IsServed (parts p : ℕ) (c : Course) (call : Option Call) : Type 0 where
  pub its : Call
  pub is : call ≡ Some its
  pub begun : its.state ≡ Begun
  pub shown : its.shown ≡ is_doubled c.fate
  pub home : part_of_op parts its.op ≡ p
  pub writes : query_of its.op ≡ None

-- a chain under way in the graph is one that stands in a part
pub record HasStanding (k : Courses) (id : CallId) : Type 0 where
  pub part : ℕ
  pub number : ℕ
  pub course : Course
  pub is : k part number ≡ Some course
  pub stands : stands course.fate ≡ true
  pub its : course.id ≡ id

-- The chains under way in the graph are those that stand, each under the id of its call.
pub record ArePends (parts : ℕ) (k : Courses) (pend : CallId → Option Chain) (calls : CallId → Option Call) : Type 0 where
  pub pending : (p v : ℕ) (c : Course) → k p v ≡ Some c → stands c.fate ≡ true → pend c.id ≡ Some (chain_of c)
  pub standing : (id : CallId) (chain : Chain) → pend id ≡ Some chain → HasStanding k id
  pub apart : (p v q w : ℕ) (c d : Course) → k p v ≡ Some c → k q w ≡ Some d → stands c.fate ≡ true → stands d.fate ≡ true → c.id ≡ d.id → (p ≡ q) × (v ≡ w)
  pub served : (p v : ℕ) (c : Course) → k p v ≡ Some c → stands c.fate ≡ true → IsServed parts p c (calls c.id)

-- a call is this far, where a part keeps this outcome of it
abbrev pub IsOutcome : Outcome → Call → Type 0
IsOutcome kept.Open call = call.state ≡ Begun
IsOutcome kept.Fine call = call.state ≡ Done said.Fine
IsOutcome kept.Skipped call = call.state ≡ Done said.Skipped
IsOutcome kept.Pending call = (call.state ≡ Begun) × (call.shown ≡ true)
IsOutcome kept.Cancelled call = call.state ≡ Done said.Cancelled
IsOutcome (kept.Conflict other) call = call.state ≡ Done (said.Conflict other)

-- a number is above the one that a part keeps of a client
abbrev pub IsAbove : Option Kept → ℕ → Type 0
IsAbove None n = Unit {0}
IsAbove (Some last) n = last.number < n

-- what a part keeps of a client is one of its calls, which is of that part and so far
pub record IsCallOf (parts p : ℕ) (outcome : Outcome) (call : Option Call) : Type 0 where
  pub its : Call
  pub is : call ≡ Some its
  pub reached : IsOutcome outcome its
  pub home : part_of_op parts its.op ≡ p

-- a call that nothing was done for
pub record IsUntouched (call : Call) : Type 0 where
  pub opened : call.state ≡ Open
  pub unshown : call.shown ≡ false

-- Calls. What a part keeps of a client is so in the graph; a call that writes and whose number is above what its part
-- keeps is open. So each call has at most one effective entry.
pub record AreCalls (parts : ℕ) (clients : ℕ → ℕ → Option Kept) (calls : CallId → Option Call) : Type 0 where
  pub known : (p c : ℕ) (last : Kept) → clients p c ≡ Some last → IsCallOf parts p last.outcome (calls (record { client = c; number = last.number }))
  pub untouched : (id : CallId) (call : Call) → calls id ≡ Some call → query_of call.op ≡ None → IsAbove (clients (part_of_op parts call.op) id.client) id.number → IsUntouched call

-- of the parts' machines, what became of the chains, and the graph
pub record Holds (parts : ℕ) (machine : ℕ → Part) (next : ℕ → ℕ) (k : Courses) (g : GraphState) : Type 0 where
  pub halves : AreHalves parts machine g.contents
  pub chains : AreChains (part_of parts) k next (kept_of parts machine)
  pub kept : AreKept machine k
  pub pends : ArePends parts k (get g.pend) (get g.calls)
  pub calls : AreCalls parts (λ p. get (machine p).clients) (get g.calls)

-- the calls are those that were invoked, each of an op of 1 to 64 edges, and said are those that were replied; a read is
-- open until then; a call's moment isn't later than any part of the steps in which it was invoked
pub record AreNoted (steps : List GStep) (calls : CallId → Option Call) : Type 0 where
  pub invoked : (id : CallId) (call : Call) → calls id ≡ Some call → IsInvoked steps id call.op
  pub known : (id : CallId) (op : Op) → IsInvoked steps id op → (call : Call) × (calls id ≡ Some call) × (call.op ≡ op)
  pub sized : (id : CallId) (call : Call) → calls id ≡ Some call → is_op call.op ≡ true
  pub said : (id : CallId) (call : Call) → calls id ≡ Some call → call.said ≡ true → IsReplied steps id
  pub unread : (id : CallId) (call : Call) → calls id ≡ Some call → query_of call.op ≢ None → call.said ≡ false → call.state ≡ Open
  pub moments : (id : CallId) (call : Call) → calls id ≡ Some call → (n : ℕ) (op : Op) → IsInvoked (take n steps) id op → call.moment ≤ n

-- a chain that wrote
abbrev pub HasWritten : Option Course → Type 0
HasWritten o = (c : Course) × (o ≡ Some c) × (c.wrote ≡ true)

-- a chain that wrote, or was aborted
abbrev pub HasWrittenOrEnded : Option Course → Type 0
HasWrittenOrEnded o = (c : Course) × (o ≡ Some c) × ((c.wrote ≡ true) ⊎ (is_aborted c.fate ≡ true))

-- what an answered entry means from then on: its client was told the truth; a Remote that is Done wrote; a Fence that
-- found all numbers is of a chain that wrote or was aborted
pub record IsTruth (k : Courses) (calls : CallId → Option Call) (entry : PartEntry) (answer : Applied) : Type 0 where
  pub told : (id : CallId) (a : Answer) → answer_of entry answer ≡ Some (id, a) → holds_of (is_right a) (calls id) ≡ true
  pub done : (from term v : ℕ) (list : List (EdgeId × Half)) → entry ≡ Remote from term v list → answer ≡ answered.Done → HasWritten (k from v)
  pub fenced : (from term v : ℕ) (edges : List EdgeId) → entry ≡ Fence from term v edges → answer ≡ answered.Fenced true → HasWrittenOrEnded (k from v)

-- each chain is of the call whose Prime has its number in its source part's list
abbrev pub AreNamed : (ℕ → ℕ → Option CallId) → Courses → Type 0
AreNamed caller k = (p v : ℕ) (c : Course) → k p v ≡ Some c → caller p v ≡ Some c.id

-- A ledger is sound with a graph: its steps are a run that leads to the graph, all of the above holds, and each entry
-- that was ever answered means what it says.
pub record IsSoundAt (parts : ℕ) (l : Ledger) (k : Courses) (g : GraphState) : Type 0 where
  pub run : Run start l.steps g
  pub holds : Holds parts (machine_of parts l) (next_of l) k g
  pub named : AreNamed (caller_of l) k
  pub noted : AreNoted l.steps (get g.calls)
  pub meant : (p i term : ℕ) (entry : PartEntry) (answer : Applied) → WasAnswered parts (l.decided p) i term entry answer → IsTruth k (get g.calls) entry answer

-- A ledger is sound with what became of its chains where it is so with some graph.
pub record IsSound (parts : ℕ) (l : Ledger) (k : Courses) : Type 0 where
  pub graph : GraphState
  pub sound : IsSoundAt parts l k graph
