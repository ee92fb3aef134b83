-- What happens on the way to a quiet point. It needs no driver.
use Rattle.std.specs.Prelude.{◌≡◌, ◌&&◌, ℕ, not, Bool, true, false, slice_get, Some}
use Rattle.replica_model.specs.declared.packet.Packet.{Packet}
use Rattle.world_model.specs.declared.event.Cause.TheVariants as cause
use Rattle.world_model.specs.declared.event.Event.{Event}
use Rattle.world_model.specs.declared.event.Event.TheVariants as event
use Rattle.world_model.specs.Lawful.{due}
use Rattle.world_model.specs.State.{State, Post, Site, AtClient, resolve}
use Rattle.statement_run.specs.Caller.{owes}
use Rattle.script_model.specs.Faults.{Faults, takes, reaches}

-- A client that has a Reply or an Invoke to make makes it before it gets another packet.
abbrev pub is_free : State → Site → Bool
is_free s (AtClient c) = not (owes (s.callers c))
is_free s other = true

-- A packet of which no Deliver and no Lose stands yet. It comes where no fault takes it and its receiver is there; else it is lost.
pub record IsFirst (s : State) (k : ℕ) (packet : Packet) : Type 0 where
  pub post : Post
  pub sent : slice_get s.posts k ≡ Some post
  pub is : post.packet ≡ packet
  pub first : s.done k ≡ false

abbrev pub comes : Faults → State → Packet → Bool
comes f s packet = not (takes f s packet) && reaches s packet

abbrev pub Arrives : Faults → State → ℕ → Type 0
Arrives f s k = (packet : Packet) × IsFirst s k packet × (comes f s packet ≡ true) × (is_free s (resolve s.table packet.to) ≡ true)

abbrev pub IsLost : Faults → State → ℕ → Type 0
IsLost f s k = (packet : Packet) × IsFirst s k packet × (comes f s packet ≡ false)

-- Reply and Invoke are due, as a Deliver or a Reply left them. A step that stops stands in the place of its Deliver.
abbrev pub IsOwed : State → ℕ → Event → Type 0
IsOwed s c e = (owes (s.callers c) ≡ true) × (due s c ≡ Some e)

abbrev pub OnWay : Faults → State → Event → Type 0
OnWay f s (event.Deliver k) = Arrives f s k
OnWay f s (event.StepCrash p y (cause.Sent k)) = Arrives f s k
OnWay f s (event.Lose k) = IsLost f s k
OnWay f s (event.Invoke id op) = IsOwed s id.client (event.Invoke id op)
OnWay f s (event.Reply id a) = IsOwed s id.client (event.Reply id a)
OnWay f s e = ⊥
