-- What stands behind each answer that was ever sent to a client, in each run.
use Rattle.part_keys.specs.declared.proposal.Proposal.TheVariants.{Made}
use Rattle.std.specs.Prelude.{◌≡◌, ◌⊎◌, ℕ, List, Some}
use Rattle.graph_model.specs.declared.answer.Answer.{Answer}
use Rattle.graph_model.specs.declared.answer.Answer.TheVariants as said
use Rattle.graph_model.specs.declared.call_id.CallId.{CallId}
use Rattle.part_keys.specs.declared.chain.Policy.TheVariants.{Cancel}
use Rattle.part_keys.specs.declared.entry.PartEntry.{PartEntry}
use Rattle.part_keys.specs.declared.entry.PartEntry.TheVariants.{Double, Abort}
use Rattle.part_keys.specs.declared.vid_kind.VidKind.{VidKind}
use Rattle.part_rules.specs.declared.applied.Applied.{Applied}
use Rattle.part_rules.specs.declared.applied.Applied.TheVariants as told
use Rattle.chain_leader.specs.declared.body.ChainBody.TheVariants as says
use Rattle.chain_leader.specs.Calls.{call_in}
use Rattle.chain_world.specs.declared.packet.ChainEnd.{ChainEnd}
use Rattle.chain_world.specs.declared.packet.ChainEnd.TheVariants as ends
use Rattle.chain_world.specs.declared.event.ChainEvent.{ChainEvent}
use Rattle.chain_world.specs.declared.event.ChainEvent.TheVariants as event
use Rattle.chain_world.specs.Places.{Among}
use Rattle.graph_model.specs.declared.graph_step.GStep.TheVariants.{Reply}
use Rattle.chain_world.specs.Answers.{IsOneOf, WasAnswered, WasSeen}
use Rattle.chain_world.specs.State.{Leader, decided_of, packet_of}
use Rattle.chain_world.specs.World.{run}

-- an entry that a part has decided gave this answer, by which the call is settled: a Local or a Close ended its chain with all
-- halves written, or its Vertex wrote
abbrev pub Settles : CallId → Applied → Type 0
Settles id answer = (answer ≡ told.Settled id) ⊎ ((answer ≡ told.Closed id) ⊎ (answer ≡ told.Finished id))

pub record IsSettled (ids : VidKind) (parts : ℕ) (events : List ChainEvent) (id : CallId) : Type 0 where
  pub part : ℕ
  pub place : ℕ
  pub term : ℕ
  pub entry : PartEntry
  pub answer : Applied
  pub decided : WasAnswered parts (decided_of (run ids parts events) part) place term entry answer
  pub settles : Settles id answer

-- a Double of the call's chain is decided, and the call was given up at the leader of its term
pub record IsShown (ids : VidKind) (parts : ℕ) (events : List ChainEvent) (id : CallId) : Type 0 where
  pub part : ℕ
  pub place : ℕ
  pub term : ℕ
  pub chain : ℕ
  pub decided : WasAnswered parts (decided_of (run ids parts events) part) place term (Double chain) (told.Doubled id)
  pub given_up : Among (event.GiveUp part term id) events

-- an Abort of the call's chain is decided, and the leader of its term proposed it, and has policy Cancel
pub record IsGivenUp (ids : VidKind) (parts : ℕ) (events : List ChainEvent) (id : CallId) : Type 0 where
  pub part : ℕ
  pub place : ℕ
  pub term : ℕ
  pub chain : ℕ
  pub decided : WasAnswered parts (decided_of (run ids parts events) part) place term (Abort chain) (told.Aborted id)
  pub leader : Leader
  pub led : (run ids parts events).leaders part term ≡ Some leader
  pub cancels : leader.lead.policy ≡ Cancel
  pub proposed : Among (Made (Abort chain)) leader.made

-- the call's own entry is decided, and gave this answer: it was skipped, or the other call's chain stood in its way
pub record IsOwn (ids : VidKind) (parts : ℕ) (events : List ChainEvent) (id : CallId) (answer : Applied) : Type 0 where
  pub part : ℕ
  pub place : ℕ
  pub term : ℕ
  pub entry : PartEntry
  pub its : call_in entry ≡ Some id
  pub decided : WasAnswered parts (decided_of (run ids parts events) part) place term entry answer

-- Each answer has its cause: Fine an end of the chain with all halves written; Skipped and Conflict the call's own entry;
-- Pending a Double, and a GiveUp; Cancelled an Abort, of a leader of policy Cancel; a view the graph at its moment. Unknown is
-- never sent.
abbrev pub HasCause : VidKind → ℕ → List ChainEvent → CallId → Answer → ℕ → Type 0
HasCause ids parts events id said.Fine m = IsSettled ids parts events id
HasCause ids parts events id said.Skipped m = IsOwn ids parts events id told.Skipped
HasCause ids parts events id (said.Conflict other) m = IsOwn ids parts events id (told.Conflict other)
HasCause ids parts events id said.Pending m = IsShown ids parts events id
HasCause ids parts events id said.Cancelled m = IsGivenUp ids parts events id
HasCause ids parts events id (said.Shown view) m = WasSeen (run ids parts events).ledger id view m
HasCause ids parts events id said.Unknown m = ⊥

-- each answer that was ever sent to a client is one of its calls', with its cause
abbrev pub SentAnswersHaveCauses : Type 0
SentAnswersHaveCauses = (ids : VidKind) (parts : ℕ) (events : List ChainEvent) (from : ChainEnd) (client number m : ℕ) (a : Answer)
    → Among (record { packet = packet_of from (ends.Client client) (says.Answer number a); moment = m }) (run ids parts events).posts
    → HasCause ids parts events (record { client = client; number = number }) a m

-- each reply of a run is Unknown, or an answer with its cause
abbrev pub RepliesHaveCauses : Type 0
RepliesHaveCauses = (ids : VidKind) (parts : ℕ) (events : List ChainEvent) (id : CallId) (a : Answer) → IsOneOf (run ids parts events).ledger.steps (Reply id a)
    → (a ≡ said.Unknown) ⊎ ((m : ℕ) × HasCause ids parts events id a m)
