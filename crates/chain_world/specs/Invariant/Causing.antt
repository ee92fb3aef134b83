-- What clients' answers come from: of each answer that is told, the entry that first gave it.
use Rattle.std.specs.Prelude.{◌≡◌, ◌⊎◌, ℕ, List, Some}
use Rattle.graph_model.specs.declared.answer.Answer.{Answer}
use Rattle.graph_model.specs.declared.answer.Answer.TheVariants as said
use Rattle.graph_model.specs.declared.call_id.CallId.{CallId}
use Rattle.part_keys.specs.declared.proposal.Proposal.{Proposal}
use Rattle.part_keys.specs.declared.entry.PartEntry.{PartEntry}
use Rattle.part_rules.specs.declared.applied.Applied.{Applied}
use Rattle.part_rules.specs.declared.applied.Applied.TheVariants.{Settled, Doubled, Closed, Aborted, Finished, Skipped, Conflict}
use Rattle.chain_leader.specs.Calls.{call_in}
use Rattle.chain_world.specs.Ledger.{Ledger}
use Rattle.chain_world.specs.Answers.{WasAnswered, WasTold}

-- Fine: a Local or a Close settled the call's chain, or its Vertex wrote. Pending: a Double showed its chain. Cancelled: an
-- Abort ended it. Skipped, Conflict: its own Prime or Vertex was skipped, or its Prime met the other call's chain.
abbrev pub Causes : PartEntry → Applied → CallId → Answer → Type 0
Causes entry answer id said.Fine = (answer ≡ Settled id) ⊎ ((answer ≡ Closed id) ⊎ (answer ≡ Finished id))
Causes entry answer id said.Pending = answer ≡ Doubled id
Causes entry answer id said.Cancelled = answer ≡ Aborted id
Causes entry answer id said.Skipped = (call_in entry ≡ Some id) × (answer ≡ Skipped)
Causes entry answer id (said.Conflict other) = (call_in entry ≡ Some id) × (answer ≡ Conflict other)
Causes entry answer id said.Unknown = ⊥
Causes entry answer id (said.Shown view) = ⊥

-- an entry of the list is the cause of a call's answer
pub record IsCaused (parts : ℕ) (decided : List (ℕ × Proposal)) (id : CallId) (a : Answer) : Type 0 where
  pub place : ℕ
  pub term : ℕ
  pub entry : PartEntry
  pub answer : Applied
  pub answered : WasAnswered parts decided place term entry answer
  pub causes : Causes entry answer id a

-- Each answer that an entry told has a cause in the list of that entry's part. No premise: it is so of any lists.
abbrev pub ToldHasCause : Type 0
ToldHasCause = (parts : ℕ) (l : Ledger) (id : CallId) (a : Answer) → (told : WasTold parts l id a) → IsCaused parts (l.decided told.part) id a
