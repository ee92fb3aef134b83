use Rattle.std.proofs.Common.{ap, sym, ◌∙◌, eq-eqb, arith}
use Rattle.chain_leader.specs.Leader.{leads}
use Rattle.chain_leader.specs.Leading.{Taken}
use Rattle.chain_leader.specs.Resuming.{all_taken_up}
use Rattle.chain_leader.proofs.TakingUp.{ready_is}
use Rattle.chain_leader.proofs.leader.Leader.resumed.Goals as goal

pub returns-clause-leading : goal.returns-clause-leading
returns-clause-leading c ids parts part from machine after h =
    let l = leads c.args.self.now in
    let own = eq-eqb c.args.of c.args.term (omega (arith, c.if-of-term.false)) in
    let rows = c.in_ok-made.ensures.rows in
    let same = c.reserve.ensures.same in
    c.takes_up.ensures.leading ∙ (λ i. record { ready = l.ready; policy = l.policy; table = all_taken_up (rows i) (same i) })
    ∙ ap (λ (t : Taken). t.leading) (sym (ready_is machine after c.args.standing.now c.args.more h c.args.term c.args.of l c.if-not-self.false own))

pub returns-clause-sent : goal.returns-clause-sent
returns-clause-sent c ids parts part from machine after h =
    let l = leads c.args.self.now in
    let own = eq-eqb c.args.of c.args.term (omega (arith, c.if-of-term.false)) in
    c.takes_up.ensures.sent ∙ c.in_ok-made.ensures.letters ∙ ap (λ (t : Taken). t.letters) (sym (ready_is machine after c.args.standing.now c.args.more h c.args.term c.args.of l c.if-not-self.false own))
