-- The packet that an event ends.
use Rattle.std.specs.Prelude.{ℕ, List, Option, None, Some}
use Rattle.world_mail.specs.declared.packets.Sent.{Sent}
use Rattle.world_mail.specs.Sent.{marked}
use Rattle.world_model.specs.declared.event.Cause.TheVariants as cause
use Rattle.world_model.specs.declared.event.Event.{Event}
use Rattle.world_model.specs.declared.event.Event.TheVariants as event

-- One that is delivered or lost; a stopped step on a packet counts as its Deliver.
abbrev pub ended_by : Event → Option ℕ
ended_by (event.Deliver k) = Some k
ended_by (event.Lose k) = Some k
ended_by (event.StepCrash p y (cause.Sent k)) = Some k
ended_by e = None

-- the packets, with that one done
abbrev pub ended_in : Option ℕ → List Sent → List Sent
ended_in None sent = sent
ended_in (Some k) sent = marked sent k
