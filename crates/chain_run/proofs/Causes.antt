-- The answers of a run have their causes, since it is the definition's run.
use Rattle.std.proofs.Common.{◌≡◌, ℕ, List, ap, subst}
use Rattle.graph_model.specs.declared.graph_step.GStep.{GStep}
use Rattle.graph_model.specs.declared.graph_step.GStep.TheVariants.{Reply}
use Rattle.part_keys.specs.declared.vid_kind.VidKind.{VidKind}
use Rattle.chain_leader.specs.declared.body.ChainBody.TheVariants as says
use Rattle.chain_world.specs.declared.packet.ChainEnd.TheVariants as ends
use Rattle.chain_world.specs.declared.event.ChainEvent.{ChainEvent}
use Rattle.chain_world.specs.Places.{Among}
use Rattle.chain_world.specs.Answers.{IsOneOf}
use Rattle.chain_world.specs.State.{Post, Chains as World, packet_of}
use Rattle.chain_world.specs.World.{run}
use Rattle.chain_world.proofs.Answered as answered
use Rattle.chain_world.proofs.Brought as brought
use Rattle.chain_run.specs.declared.chains.Chains.{Chains}
use Rattle.chain_run.specs.Causes.{HaveCauses}
use Rattle.chain_run.specs.Shows.{world_of}

pub have_causes : (ids : VidKind) (parts : ℕ) (events : List ChainEvent) (chains : Chains) → world_of chains ≡ run ids parts events → HaveCauses ids parts events chains
have_causes ids parts events chains is = record {
  sent = λ from client number m a among. answered.sent_answers_have_causes ids parts events from client number m a
      (subst (λ (posts : List Post). Among (record { packet = packet_of from (ends.Client client) (says.Answer number a); moment = m }) posts) (ap (λ (w : World). w.posts) is) among);
  replied = λ id a said. brought.replies_have_causes ids parts events id a
      (subst (λ (steps : List GStep). IsOneOf steps (Reply id a)) (ap (λ (w : World). w.ledger.steps) is) said);
}
