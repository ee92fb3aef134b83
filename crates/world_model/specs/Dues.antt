-- What clients do is what is due.
use Rattle.std.specs.Prelude.{◌≡◌, ◌⊎◌, ℕ, Some, true, false}
use Rattle.graph_model.specs.declared.answer.Answer.{Answer}
use Rattle.graph_model.specs.declared.answer.Answer.TheVariants.{Unknown}
use Rattle.graph_model.specs.declared.call_id.CallId.{CallId}
use Rattle.graph_model.specs.declared.op.Op.{Op}
use Rattle.chain_world.specs.World.{is_client}
use Rattle.world_model.specs.declared.event.Event.{Event}
use Rattle.world_model.specs.declared.event.Event.TheVariants as event
use Rattle.world_model.specs.State.{Space, State}
use Rattle.world_model.specs.Lawful.{due, IsQuiet, Lawful}

-- a lawful Invoke is the one that is due
abbrev pub InvokesAreDue : Type 0
InvokesAreDue = (sp : Space) (s : State) (id : CallId) (op : Op) → Lawful sp s (event.Invoke id op) → due s id.client ≡ Some (event.Invoke id op)

-- and so is a lawful Reply, but for one of Unknown
abbrev pub RepliesAreDue : Type 0
RepliesAreDue = (sp : Space) (s : State) (id : CallId) (a : Answer) → Lawful sp s (event.Reply id a) → (due s id.client ≡ Some (event.Reply id a)) ⊎ (a ≡ Unknown)

-- At a quiet point nothing is due but the first Invoke of a statement that was queued while no call was open.
pub record IsFirst (s : State) (n : ℕ) (e : Event) : Type 0 where
  pub id : CallId
  pub op : Op
  pub is : e ≡ event.Invoke id op
  pub left : (s.callers n).left ≡ false

abbrev pub QuietIsDone : Type 0
QuietIsDone = (s : State) (n : ℕ) → is_client n ≡ true → IsQuiet s → (e : Event) → due s n ≡ Some e → IsFirst s n e
