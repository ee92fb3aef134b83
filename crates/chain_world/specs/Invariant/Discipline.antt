-- What a decision, a call and an answer have to meet, so that the ledger is a run of the graph machine.
use Rattle.std.specs.Prelude.{◌≡◌, ℕ, ◌<◌, List, Some, true, false}
use Rattle.std.specs.Map.{keys_of}
use Rattle.graph_model.specs.declared.answer.Answer.{Answer}
use Rattle.graph_model.specs.declared.answer.Answer.TheVariants as said
use Rattle.graph_model.specs.declared.call_id.CallId.{CallId}
use Rattle.graph_model.specs.declared.edge_id.EdgeId.{EdgeId}
use Rattle.graph_model.specs.declared.half.Half.{Half}
use Rattle.graph_model.specs.declared.op.Op.{Op}
use Rattle.graph_model.specs.declared.graph_step.GStep.{GStep}
use Rattle.graph_model.specs.Ops.{is_op}
use Rattle.part_keys.specs.declared.proposal.Proposal.{Proposal}
use Rattle.part_keys.specs.declared.proposal.Proposal.TheVariants.{Made}
use Rattle.part_keys.specs.declared.entry.PartEntry.{PartEntry}
use Rattle.part_keys.specs.declared.entry.PartEntry.TheVariants.{Prime, Local, Double, Close, Abort, Remote, Fence, Vertex, Read}
use Rattle.part_keys.specs.Routing.{routes_to}
use Rattle.part_rules.specs.Part.{Part, guard_of}
use Rattle.chain_leader.specs.Calls.{entry_of, part_of_op}
use Rattle.chain_world.specs.Ledger.{Ledger, machine_of}
pub use Rattle.chain_world.specs.Answers.{IsOneOf, IsInvoked, IsReplied, WasAnswered, WasTold, WasSeen}
use Rattle.chain_world.specs.Course.{Primed, Doubled, Course, Courses, is_aborted}

-- A Prime or Vertex is the entry of a call that was invoked, and routes to this part.
pub record IsOfCall (parts : ℕ) (steps : List GStep) (p : ℕ) (id : CallId) (entry : PartEntry) : Type 0 where
  pub op : Op
  pub invoked : IsInvoked steps id op
  pub is : entry_of id op ≡ entry
  pub home : part_of_op parts op ≡ p
  pub routed : routes_to parts p entry ≡ true

-- A Remote is of a chain that was begun, with all of its edges, and comes to its remote part. Where that chain was
-- aborted the guard is above its term.
pub record IsRemoteOf (k : Courses) (machine : Part) (p from term v : ℕ) (list : List (EdgeId × Half)) : Type 0 where
  pub course : Course
  pub begun : k from v ≡ Some course
  pub remote : course.remote ≡ p
  pub whole : course.list ≡ list
  pub late : is_aborted course.fate ≡ true → term < guard_of machine from

-- A Fence is of a chain that was begun, and has all of its edges.
pub record IsFenceOf (k : Courses) (p from v : ℕ) (edges : List EdgeId) : Type 0 where
  pub course : Course
  pub begun : k from v ≡ Some course
  pub remote : course.remote ≡ p
  pub whole : keys_of course.list ≡ edges

-- what part p may decide: an effective Local or Close is of a chain that wrote its in-halves, an effective Abort of one
-- that didn't
abbrev pub MeetsEntry : ℕ → List GStep → Courses → Part → ℕ → PartEntry → Type 0
MeetsEntry parts steps k machine p (Prime id list absent) = IsOfCall parts steps p id (Prime id list absent)
MeetsEntry parts steps k machine p (Local v) = (c : Course) → k p v ≡ Some c → c.fate ≡ Primed → c.wrote ≡ true
MeetsEntry parts steps k machine p (Double v) = Unit {0}
MeetsEntry parts steps k machine p (Close v) = (c : Course) → k p v ≡ Some c → c.fate ≡ Doubled → c.wrote ≡ true
MeetsEntry parts steps k machine p (Abort v) = (c : Course) → k p v ≡ Some c → c.fate ≡ Primed → c.wrote ≡ false
MeetsEntry parts steps k machine p (Remote from term v list) = IsRemoteOf k machine p from term v list
MeetsEntry parts steps k machine p (Fence from term v edges) = IsFenceOf k p from v edges
MeetsEntry parts steps k machine p (Vertex id op) = IsOfCall parts steps p id (Vertex id op)
MeetsEntry parts steps k machine p (Read id query) = Unit {0}

-- an item that is no entry meets all
abbrev pub MeetsItem : ℕ → List GStep → Courses → Part → ℕ → Proposal → Type 0
MeetsItem parts steps k machine p (Made entry) = MeetsEntry parts steps k machine p entry
MeetsItem parts steps k machine p other = Unit {0}

-- part p of a ledger may decide an item
abbrev pub MayDecide : ℕ → Ledger → Courses → ℕ → ℕ × Proposal → Type 0
MayDecide parts l k p d = MeetsItem parts l.steps k (machine_of parts l p) p d.1

-- a call is new, and its op is one
pub record MayInvoke (l : Ledger) (id : CallId) (op : Op) : Type 0 where
  pub fresh : (other : Op) → IsInvoked l.steps id other → ⊥
  pub sized : is_op op ≡ true

-- what may be replied: that nobody answered; what an entry told; to a read, what was seen
abbrev pub IsRightReply : ℕ → Ledger → CallId → Answer → ℕ → Type 0
IsRightReply parts l id said.Unknown m = Unit {0}
IsRightReply parts l id (said.Shown view) m = WasSeen l id view m
IsRightReply parts l id said.Fine m = WasTold parts l id said.Fine
IsRightReply parts l id said.Skipped m = WasTold parts l id said.Skipped
IsRightReply parts l id said.Pending m = WasTold parts l id said.Pending
IsRightReply parts l id (said.Conflict other) m = WasTold parts l id (said.Conflict other)
IsRightReply parts l id said.Cancelled m = WasTold parts l id said.Cancelled

-- a call that was invoked and not answered yet is answered rightly
pub record MayReply (parts : ℕ) (l : Ledger) (id : CallId) (a : Answer) (m : ℕ) : Type 0 where
  pub op : Op
  pub invoked : IsInvoked l.steps id op
  pub unsaid : IsReplied l.steps id → ⊥
  pub right : IsRightReply parts l id a m
