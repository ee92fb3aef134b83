use Rattle.std.proofs.Common.{refl, sym, ◌∙◌}
use Rattle.std.proofs.lemmas.Result.{on_ok_weaker}
use Rattle.chain_run.proofs.Seating.{led}
use Rattle.chain_run.proofs.chains.Chains.lead.Goals as goal

pub returns : goal.returns
returns c = λ ids.
    on_ok_weaker c.put.result
    (λ put. led ids c.args.parts c.args.self.now _ c.args.part c.args.term c.in_ok-leader.leader c.args.policy c.args.applied
    (sym c.is_part.ensures ∙ c.if-not-is_part.false) (sym c.may_lead.ensures ∙ c.if-not-may_lead.false) c.in_ok-leader.ensures refl refl refl refl refl put)
    c.put.ensures
