use Rattle.std.proofs.Common.{ap, sym, ◌∙◌}
use Rattle.std.proofs.lemmas.Result.{on_ok_weaker}
use Rattle.chain_world.specs.declared.event.ChainEvent.{ChainEvent}
use Rattle.chain_world.specs.World.{after}
use Rattle.chain_run.specs.Shows.{world_of}
use Rattle.chain_run.proofs.chains.Chains.take.Goals as goal

pub returns-in-Invoke : goal.returns-in-Invoke
returns-in-Invoke c = on_ok_weaker c.invoke.result (λ is. is ∙ ap (λ (e : ChainEvent). after c.args.ids c.args.parts (world_of c.args.self.now) e) (sym c.in-Invoke.is)) c.invoke.ensures

pub returns-in-Members : goal.returns-in-Members
returns-in-Members c = on_ok_weaker c.propose_members.result (λ is. is ∙ ap (λ (e : ChainEvent). after c.args.ids c.args.parts (world_of c.args.self.now) e) (sym c.in-Members.is)) (c.propose_members.ensures c.args.ids)

pub returns-in-Lead : goal.returns-in-Lead
returns-in-Lead c = on_ok_weaker c.lead.result (λ is. is ∙ ap (λ (e : ChainEvent). after c.args.ids c.args.parts (world_of c.args.self.now) e) (sym c.in-Lead.is)) (c.lead.ensures c.args.ids)

pub returns-in-Take : goal.returns-in-Take
returns-in-Take c = on_ok_weaker c.take_packet.result (λ is. is ∙ ap (λ (e : ChainEvent). after c.args.ids c.args.parts (world_of c.args.self.now) e) (sym c.in-Take.is)) c.take_packet.ensures

pub returns-in-Decide : goal.returns-in-Decide
returns-in-Decide c = on_ok_weaker c.decide.result (λ is. is ∙ ap (λ (e : ChainEvent). after c.args.ids c.args.parts (world_of c.args.self.now) e) (sym c.in-Decide.is)) (c.decide.ensures c.args.ids)

pub returns-in-Apply : goal.returns-in-Apply
returns-in-Apply c = on_ok_weaker c.apply.result (λ is. is ∙ ap (λ (e : ChainEvent). after c.args.ids c.args.parts (world_of c.args.self.now) e) (sym c.in-Apply.is)) (c.apply.ensures c.args.ids)

pub returns-in-GiveUp : goal.returns-in-GiveUp
returns-in-GiveUp c = on_ok_weaker c.give_up.result (λ is. is ∙ ap (λ (e : ChainEvent). after c.args.ids c.args.parts (world_of c.args.self.now) e) (sym c.in-GiveUp.is)) (c.give_up.ensures c.args.ids)

pub returns-in-Pulse : goal.returns-in-Pulse
returns-in-Pulse c = on_ok_weaker c.pulse.result (λ is. is ∙ ap (λ (e : ChainEvent). after c.args.ids c.args.parts (world_of c.args.self.now) e) (sym c.in-Pulse.is)) (c.pulse.ensures c.args.ids)

pub returns-in-See : goal.returns-in-See
returns-in-See c = on_ok_weaker c.see.result (λ is. is ∙ ap (λ (e : ChainEvent). after c.args.ids c.args.parts (world_of c.args.self.now) e) (sym c.in-See.is)) (c.see.ensures c.args.ids)

pub returns-in-Reply : goal.returns-in-Reply
returns-in-Reply c = on_ok_weaker c.reply.result (λ is. is ∙ ap (λ (e : ChainEvent). after c.args.ids c.args.parts (world_of c.args.self.now) e) (sym c.in-Reply.is)) (c.reply.ensures c.args.ids c.args.parts)
