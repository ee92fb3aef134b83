-- What the steps have of a call, what an entry was answered, and what a read saw.
use Rattle.std.specs.Prelude.{◌≡◌, ◌⊎◌, ℕ, suc, ◌≤◌, List, [], ◌∷◌, length, take, slice_get, Some}
use Rattle.graph_model.specs.declared.answer.Answer.{Answer}
use Rattle.graph_model.specs.declared.call_id.CallId.{CallId}
use Rattle.graph_model.specs.declared.found.Found.{Found}
use Rattle.graph_model.specs.declared.op.Op.{Op}
use Rattle.graph_model.specs.declared.op.Op.TheVariants as op
use Rattle.graph_model.specs.declared.query.Query.{Query}
use Rattle.graph_model.specs.declared.graph_step.GStep.{GStep}
use Rattle.graph_model.specs.declared.graph_step.GStep.TheVariants.{Invoke, Reply}
use Rattle.graph_model.specs.State.{GraphState, start}
use Rattle.graph_model.specs.Run.{Run}
use Rattle.graph_model.specs.Views.{view_of}
use Rattle.part_keys.specs.declared.proposal.Proposal.{Proposal}
use Rattle.part_keys.specs.declared.proposal.Proposal.TheVariants.{Made}
use Rattle.part_keys.specs.declared.entry.PartEntry.{PartEntry}
use Rattle.part_rules.specs.declared.applied.Applied.{Applied}
use Rattle.part_rules.specs.Folded.{item_applied, folded}
use Rattle.chain_leader.specs.Calls.{answer_of}
use Rattle.chain_world.specs.Ledger.{Ledger}

-- the step is one of these
abbrev pub IsOneOf : List GStep → GStep → Type 0
IsOneOf [] s = ⊥
IsOneOf (x ∷ steps) s = (x ≡ s) ⊎ IsOneOf steps s

-- a client made this call
abbrev pub IsInvoked : List GStep → CallId → Op → Type 0
IsInvoked steps id op = IsOneOf steps (Invoke id op)

-- a call was answered
abbrev pub IsReplied : List GStep → CallId → Type 0
IsReplied steps id = (a : Answer) × IsOneOf steps (Reply id a)

-- the item at place i of a part's list was answered so
pub record WasAnswered (parts : ℕ) (decided : List (ℕ × Proposal)) (i : ℕ) (term : ℕ) (entry : PartEntry) (answer : Applied) : Type 0 where
  pub there : slice_get decided i ≡ Some (term, Made entry)
  pub is : (item_applied parts (suc i) (Made entry) (folded parts (take i decided))).1 ≡ answer

-- an entry of some part told the call's client this answer
pub record WasTold (parts : ℕ) (l : Ledger) (id : CallId) (a : Answer) : Type 0 where
  pub part : ℕ
  pub place : ℕ
  pub term : ℕ
  pub entry : PartEntry
  pub answer : Applied
  pub answered : WasAnswered parts (l.decided part) place term entry answer
  pub tells : answer_of entry answer ≡ Some (id, a)

-- a view is that of its query in the graph behind the first m steps, and the call was invoked among these
pub record WasSeen (l : Ledger) (id : CallId) (view : List Found) (m : ℕ) : Type 0 where
  pub query : Query
  pub invoked : IsInvoked (take m l.steps) id (op.Read query)
  pub within : m ≤ length l.steps
  pub graph : GraphState
  pub run : Run start (take m l.steps) graph
  pub is : view_of query graph.contents ≡ view
