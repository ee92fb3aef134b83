-- A read that is answered, as the world has it.
use Rattle.std.proofs.Common.{◌≡◌, ℕ, [], ◌∷◌, ◌++◌, length, take, ap, ◌∙◌}
use Rattle.graph_model.specs.declared.answer.Answer.{Answer}
use Rattle.graph_model.specs.declared.call_id.CallId.{CallId}
use Rattle.graph_model.specs.declared.query.Query.{Query}
use Rattle.part_rules.specs.Folded.{folded}
use Rattle.chain_leader.specs.declared.body.ChainBody.TheVariants as says
use Rattle.chain_leader.specs.Leading.{read}
use Rattle.chain_world.specs.declared.packet.ChainEnd.TheVariants as ends
use Rattle.chain_world.specs.Events.{shown_by}
use Rattle.chain_world.specs.State.{packet_of, with_posts}
use Rattle.chain_run.specs.declared.chains.Chains.{Chains}
use Rattle.chain_run.specs.declared.leaders.Seated.{Seated}
use Rattle.chain_run.specs.Shows.{list_in, posted, leader_of, leader_in, client_in, world_of}
use Rattle.chain_run.proofs.Happening.{same_world}

pub shown : (c n : Chains) (parts p t : ℕ) (l : Seated) (id : CallId) (query : Query) (answer : Answer) (moment : ℕ) → answer ≡ read (folded parts (take l.applied (list_in c.decided p))) query → moment ≡ length c.steps
    → n.steps ≡ c.steps → n.decided ≡ c.decided → n.founded ≡ c.founded → n.leaders ≡ c.leaders → n.callers ≡ c.callers
    → posted n.posts ≡ posted c.posts ++ record { packet = packet_of (ends.Leader p t) (ends.Client id.client) (says.Answer id.number answer); moment = moment } ∷ []
    → world_of n ≡ with_posts (world_of c) (shown_by parts (world_of c) p t (leader_of l) id query ∷ [])
shown c n parts p t l id query answer moment said at steps decided founded leaders callers posts =
    same_world n (with_posts (world_of c) (shown_by parts (world_of c) p t (leader_of l) id query ∷ [])) steps (ap list_in decided) (ap list_in founded) (ap leader_in leaders)
    (posts ∙ (λ i. posted c.posts ++ record { packet = packet_of (ends.Leader p t) (ends.Client id.client) (says.Answer id.number (said i)); moment = at i } ∷ []))
    (ap client_in callers)
