-- What stands behind each answer that was ever sent to a client, and behind each Reply: what was decided, and which tick came.
use Rattle.std.specs.Prelude.{◌≡◌, ◌⊎◌, ℕ, List, Some, slice_get}
use Rattle.graph_model.specs.declared.answer.Answer.{Answer}
use Rattle.graph_model.specs.declared.answer.Answer.TheVariants as said
use Rattle.graph_model.specs.declared.call_id.CallId.{CallId}
use Rattle.part_keys.specs.declared.entry.PartEntry.{PartEntry}
use Rattle.part_keys.specs.declared.entry.PartEntry.TheVariants.{Double, Abort}
use Rattle.part_keys.specs.declared.chain.Policy.TheVariants.{Cancel}
use Rattle.part_rules.specs.declared.applied.Applied.{Applied}
use Rattle.part_rules.specs.declared.applied.Applied.TheVariants as told
use Rattle.chain_leader.specs.declared.body.ChainBody.TheVariants as says
use Rattle.chain_leader.specs.Calls.{call_in}
use Rattle.chain_world.specs.Answers.{WasAnswered, WasSeen}
use Rattle.chain_world.specs.Causes.{Settles}
use Rattle.chain_world.specs.Ledger.{Ledger}
use Rattle.chain_world.specs.Places.{Among}
use Rattle.replica_model.specs.declared.packet.To.TheVariants as to
use Rattle.replica_model.specs.declared.packet.Body.TheVariants as body
use Rattle.replica_model.specs.declared.input.Tick.{Tick}
use Rattle.replica_model.specs.declared.input.Tick.TheVariants as tick
use Rattle.world_model.specs.State.{Post, State}
use Rattle.world_model.specs.Lawful.{MayReply}
use Rattle.world_model.specs.declared.event.Cause.TheVariants as cause
use Rattle.world_model.specs.declared.event.Event.TheVariants as event
use Rattle.world_model.specs.After.{Doing, Noted}

-- some part decided an entry by which the call is settled: a Local or a Close ended its chain with all halves written, or its
-- Vertex wrote
pub record WasSettled (parts : ℕ) (l : Ledger) (id : CallId) : Type 0 where
  pub part : ℕ
  pub place : ℕ
  pub term : ℕ
  pub entry : PartEntry
  pub answer : Applied
  pub decided : WasAnswered parts (l.decided part) place term entry answer
  pub settles : Settles id answer

-- some part decided this about the call's chain, and it had this outcome
pub record WasDecided (parts : ℕ) (l : Ledger) (made : ℕ → PartEntry) (outcome : Applied) : Type 0 where
  pub part : ℕ
  pub place : ℕ
  pub term : ℕ
  pub chain : ℕ
  pub decided : WasAnswered parts (l.decided part) place term (made chain) outcome

-- the call's own entry was decided, and had this outcome
pub record WasOwn (parts : ℕ) (l : Ledger) (id : CallId) (outcome : Applied) : Type 0 where
  pub part : ℕ
  pub place : ℕ
  pub term : ℕ
  pub entry : PartEntry
  pub its : call_in entry ≡ Some id
  pub decided : WasAnswered parts (l.decided part) place term entry outcome

-- Fine: an end of the chain with all halves written. Skipped and Conflict: the call's own entry, which found all rows there, or
-- the other call's chain in its way. Pending: a Double of the chain. Cancelled: an Abort of it. A view: what the graph had at
-- that moment. Unknown is never sent.
abbrev pub IsFounded : ℕ → Ledger → CallId → Answer → ℕ → Type 0
IsFounded parts l id said.Fine m = WasSettled parts l id
IsFounded parts l id said.Skipped m = WasOwn parts l id told.Skipped
IsFounded parts l id (said.Conflict other) m = WasOwn parts l id (told.Conflict other)
IsFounded parts l id said.Pending m = WasDecided parts l Double (told.Doubled id)
IsFounded parts l id said.Cancelled m = WasDecided parts l Abort (told.Aborted id)
IsFounded parts l id (said.Shown view) m = WasSeen l id view m
IsFounded parts l id said.Unknown m = ⊥

-- of each Answer that was ever sent to a client
abbrev pub AnswersAreFounded : ℕ → State → Type 0
AnswersAreFounded parts v = (k : ℕ) (post : Post) (client number : ℕ) (a : Answer) → slice_get v.posts k ≡ Some post → post.packet.to ≡ to.Client client → post.packet.body ≡ body.Chain (says.Answer number a)
    → IsFounded parts v.ledger (record { client = client; number = number }) a post.moment

-- of each Reply that may come now, but an Unknown that nobody answered
abbrev pub RepliesAreFounded : ℕ → State → Type 0
RepliesAreFounded parts s = (id : CallId) (a : Answer) → MayReply (s.callers id.client) id a → (a ≡ said.Unknown) ⊎ ((m : ℕ) × IsFounded parts s.ledger id a m)

-- Some peer of the part was told this, in a step that it took, or in one in which it stopped.
abbrev pub WasTold : List Doing → ℕ → Tick → Type 0
WasTold doings p t = (y : ℕ) × (Among (Noted (event.Tick p y t)) doings ⊎ Among (Noted (event.StepCrash p y (cause.Tick t))) doings)

-- some part decided a Double of the call's chain, and a peer of it was told that the call's client waits no longer
pub record WasGivenUp (parts : ℕ) (l : Ledger) (doings : List Doing) (id : CallId) : Type 0 where
  pub part : ℕ
  pub place : ℕ
  pub term : ℕ
  pub chain : ℕ
  pub decided : WasAnswered parts (l.decided part) place term (Double chain) (told.Doubled id)
  pub given_up : WasTold doings part (tick.GiveUp id)

-- some part decided an Abort of the call's chain, and a peer of it was told to be elected with policy Cancel
pub record WasCancelled (parts : ℕ) (l : Ledger) (doings : List Doing) (id : CallId) : Type 0 where
  pub part : ℕ
  pub place : ℕ
  pub term : ℕ
  pub chain : ℕ
  pub decided : WasAnswered parts (l.decided part) place term (Abort chain) (told.Aborted id)
  pub elected : WasTold doings part (tick.Elect Cancel)

-- Pending and Cancelled each have a tick among the doings; of all other answers none is asked.
abbrev pub HasTick : ℕ → Ledger → List Doing → CallId → Answer → Type 0
HasTick parts l doings id said.Pending = WasGivenUp parts l doings id
HasTick parts l doings id said.Cancelled = WasCancelled parts l doings id
HasTick parts l doings id a = Unit {0}

-- of each Answer that was ever sent to a client, and of each Reply that may come now
abbrev pub AnswersHaveTicks : ℕ → List Doing → State → Type 0
AnswersHaveTicks parts doings v = (k : ℕ) (post : Post) (client number : ℕ) (a : Answer) → slice_get v.posts k ≡ Some post → post.packet.to ≡ to.Client client → post.packet.body ≡ body.Chain (says.Answer number a)
    → HasTick parts v.ledger doings (record { client = client; number = number }) a

abbrev pub RepliesHaveTicks : ℕ → List Doing → State → Type 0
RepliesHaveTicks parts doings s = (id : CallId) (a : Answer) → MayReply (s.callers id.client) id a → HasTick parts s.ledger doings id a
