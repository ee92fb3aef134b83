-- The ledger: what each part has decided, and the graph steps that this amounts to.
use Rattle.std.specs.Prelude.{ℕ, suc, ◌==◌, List, [], ◌∷◌, ◌++◌, length, Option, None, Some, Bool, true, slice_get, if◌then◌else◌, zero}
use Rattle.graph_model.specs.declared.answer.Answer.{Answer}
use Rattle.graph_model.specs.declared.answer.Answer.TheVariants as said
use Rattle.graph_model.specs.declared.call_id.CallId.{CallId}
use Rattle.graph_model.specs.declared.op.Op.{Op}
use Rattle.graph_model.specs.declared.graph_step.GStep.{GStep}
use Rattle.graph_model.specs.declared.graph_step.GStep.TheVariants as step
use Rattle.part_keys.specs.declared.proposal.Proposal.{Proposal}
use Rattle.part_keys.specs.declared.proposal.Proposal.TheVariants.{Made}
use Rattle.part_keys.specs.declared.entry.PartEntry.{PartEntry}
use Rattle.part_keys.specs.declared.entry.PartEntry.TheVariants.{Prime, Local, Double, Close, Abort, Remote, Fence, Vertex, Read}
use Rattle.part_rules.specs.declared.applied.Applied.{Applied}
use Rattle.part_rules.specs.declared.applied.Applied.TheVariants.{Conflict, Skipped, Begun, Settled, Doubled, Closed, Aborted, Finished}
use Rattle.part_rules.specs.Part.{Part}
use Rattle.part_rules.specs.Machine.{writes}
use Rattle.part_rules.specs.Folded.{item_applied, folded}

-- the graph steps so far, and each part's decided list: items with the term of the leader that made each
pub record Ledger : Type 0 where
  pub steps : List GStep
  pub decided : ℕ → List (ℕ × Proposal)

-- nothing has happened
abbrev pub blank_ledger : Ledger
blank_ledger = record { steps = []; decided = λ p. [] }

-- a part's machine
abbrev pub machine_of : ℕ → Ledger → ℕ → Part
machine_of parts l p = folded parts (l.decided p)

-- the call of a Prime; no other item has one
abbrev pub call_of_entry : PartEntry → Option CallId
call_of_entry (Prime id list absent) = Some id
call_of_entry other = None

abbrev pub call_of_item : Proposal → Option CallId
call_of_item (Made entry) = call_of_entry entry
call_of_item other = None

abbrev pub call_of : Option (ℕ × Proposal) → Option CallId
call_of None = None
call_of (Some d) = call_of_item d.1

-- the call whose Prime has that index in a list, whose first item has index 1
abbrev pub call_at : List (ℕ × Proposal) → ℕ → Option CallId
call_at decided zero = None
call_at decided (suc i) = call_of (slice_get decided i)

-- the call whose Prime has index v in part p's list
abbrev pub caller_of : Ledger → ℕ → ℕ → Option CallId
caller_of l p v = call_at (l.decided p) v

-- the index of a part's next entry
abbrev pub next_of : Ledger → ℕ → ℕ
next_of l p = suc (length (l.decided p))

-- The graph steps of an entry, by its answer. A Prime begins a chain, is skipped, or is in conflict.
abbrev pub primed_steps : CallId → Applied → List GStep
primed_steps id (Begun v) = step.Begin id ∷ []
primed_steps id Skipped = step.Skip id ∷ []
primed_steps id (Conflict other) = step.Refuse id ∷ []
primed_steps id answer = []

-- a Local settles, a Double shows, a Close settles what was shown, an Abort cancels
abbrev pub ended_steps : Applied → List GStep
ended_steps (Settled id) = step.OutHalf id ∷ step.Settle id ∷ []
ended_steps (Doubled id) = step.OutHalf id ∷ []
ended_steps (Closed id) = step.Settle id ∷ []
ended_steps (Aborted id) = step.Cancel id ∷ []
ended_steps answer = []

-- a Vertex is new, written or skipped
abbrev pub vertex_steps : CallId → Applied → List GStep
vertex_steps id (Finished call) = step.Vertex id ∷ []
vertex_steps id Skipped = step.Vertex id ∷ []
vertex_steps id answer = []

-- A Remote that wrote at least one in-half gives InHalf of the call whose chain it is of, also where that chain stands no
-- more: that the graph can take the step is then for the theorem to say.
abbrev pub remote_steps : Bool → Option CallId → List GStep
remote_steps true (Some id) = step.InHalf id ∷ []
remote_steps wrote call = []

-- `caller p v` is the call whose Prime has index v in part p's list, and `machine` the part's machine before the entry
abbrev pub steps_of_entry : (ℕ → ℕ → Option CallId) → Part → PartEntry → Applied → List GStep
steps_of_entry caller machine (Prime id list absent) answer = primed_steps id answer
steps_of_entry caller machine (Local v) answer = ended_steps answer
steps_of_entry caller machine (Double v) answer = ended_steps answer
steps_of_entry caller machine (Close v) answer = ended_steps answer
steps_of_entry caller machine (Abort v) answer = ended_steps answer
steps_of_entry caller machine (Remote from term v list) answer = remote_steps (writes (Remote from term v list) machine) (caller from v)
steps_of_entry caller machine (Fence from term v edges) answer = []
steps_of_entry caller machine (Vertex id op) answer = vertex_steps id answer
steps_of_entry caller machine (Read id query) answer = []

-- an item that is no entry gives none
abbrev pub steps_of_item : (ℕ → ℕ → Option CallId) → Part → Proposal → Applied → List GStep
steps_of_item caller machine (Made entry) answer = steps_of_entry caller machine entry answer
steps_of_item caller machine other answer = []

-- what the next item of a part leaves and is answered
abbrev pub next_applied : ℕ → Ledger → ℕ → Proposal → Part × Applied
next_applied parts l p x = item_applied parts (next_of l p) x (machine_of parts l p)

-- one part's list is this now
abbrev pub with_list : (ℕ → List (ℕ × Proposal)) → ℕ → List (ℕ × Proposal) → ℕ → List (ℕ × Proposal)
with_list decided p list q = if q == p then list else decided q

-- part p decides an item, with its term
abbrev pub decides : ℕ → Ledger → ℕ → ℕ × Proposal → Ledger
decides parts l p d = record {
  steps = l.steps ++ steps_of_item (caller_of l) (machine_of parts l p) d.1 (next_applied parts l p d.1).1;
  decided = with_list l.decided p (l.decided p ++ d ∷ []);
}

-- a client makes a call
abbrev pub invokes : Ledger → CallId → Op → Ledger
invokes l id op = record l { steps = l.steps ++ step.Invoke id op ∷ [] }

-- a client is answered; what a read shows is of this moment
abbrev pub reply_steps : CallId → ℕ → Answer → List GStep
reply_steps id m (said.Shown view) = step.Read id m ∷ step.Reply id (said.Shown view) ∷ []
reply_steps id m a = step.Reply id a ∷ []

-- an answer, in the ledger
abbrev pub replies : Ledger → CallId → Answer → ℕ → Ledger
replies l id a m = record l { steps = l.steps ++ reply_steps id m a }
