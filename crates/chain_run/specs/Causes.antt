-- What stands behind the answers of a run.
use Rattle.std.specs.Prelude.{◌≡◌, ◌⊎◌, ℕ, List}
use Rattle.graph_model.specs.declared.answer.Answer.{Answer}
use Rattle.graph_model.specs.declared.answer.Answer.TheVariants.{Unknown}
use Rattle.graph_model.specs.declared.call_id.CallId.{CallId}
use Rattle.graph_model.specs.declared.graph_step.GStep.TheVariants.{Reply}
use Rattle.part_keys.specs.declared.vid_kind.VidKind.{VidKind}
use Rattle.chain_leader.specs.declared.body.ChainBody.TheVariants as says
use Rattle.chain_world.specs.declared.packet.ChainEnd.{ChainEnd}
use Rattle.chain_world.specs.declared.packet.ChainEnd.TheVariants as ends
use Rattle.chain_world.specs.declared.event.ChainEvent.{ChainEvent}
use Rattle.chain_world.specs.Places.{Among}
use Rattle.chain_world.specs.Answers.{IsOneOf}
use Rattle.chain_world.specs.Causes.{HasCause}
use Rattle.chain_world.specs.State.{packet_of}
use Rattle.chain_run.specs.declared.chains.Chains.{Chains}
use Rattle.chain_run.specs.Shows.{posted}

-- Each answer that was sent to a client is one of its calls', with its cause in these events; and so is each reply that isn't
-- Unknown.
pub record HaveCauses (ids : VidKind) (parts : ℕ) (events : List ChainEvent) (chains : Chains) : Type 0 where
  pub sent : (from : ChainEnd) (client number m : ℕ) (a : Answer) → Among (record { packet = packet_of from (ends.Client client) (says.Answer number a); moment = m }) (posted chains.posts)
      → HasCause ids parts events (record { client = client; number = number }) a m
  pub replied : (id : CallId) (a : Answer) → IsOneOf chains.steps (Reply id a) → (a ≡ Unknown) ⊎ ((m : ℕ) × HasCause ids parts events id a m)
