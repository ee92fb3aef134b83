use Rattle.std.proofs.Common.{refl, ap, sym, ◌∙◌}
use Rattle.std.specs.FinMap.{insert}
use Rattle.std.proofs.lemmas.Result.{on_ok_weaker}
use Rattle.chain_leader.specs.Leader.{leads}
use Rattle.chain_leader.specs.Leading.{given_up}
use Rattle.chain_run.specs.Shows.{leader_of, seat}
use Rattle.chain_run.proofs.Happening.{gave_up}
use Rattle.chain_run.proofs.Proposing.{behind_gave, gave_it_up}
use Rattle.chain_run.proofs.chains.Chains.give_up.Goals as goal

pub returns : goal.returns
returns c = λ ids.
    let held = c.args.self.now in
    let p = c.args.part in
    let t = c.args.term in
    let l = c.in-Some.leader in
    let made = c.propose.new.leader in
    on_ok_weaker c.put.result
    (λ put. gave_up ids c.args.parts held p t l (sym c.is_part.ensures ∙ c.if-not-is_part.false) (sym c.in-Some.ensures.leader) _ c.args.id
    (gave_it_up held _ p t l made c.args.id
    (c.in_ok-propose.ensures ∙ behind_gave (leader_of l) _ _ (given_up (leads l.lead) c.args.id) _ _ c.given_up-proposal.ensures.leading c.given_up-proposal.ensures.proposed refl)
    refl refl refl refl (put ∙ ap (λ m. insert m (seat p t) made) c.remove.ensures.others) refl))
    c.put.ensures
