use Rattle.std.proofs.Common.{ap, sym, ◌∙◌}
use Rattle.chain_leader.specs.Leading.{Taken}
use Rattle.chain_leader.specs.Leader.{leads}
use Rattle.chain_leader.proofs.Proposing.{requested_is}
use Rattle.chain_leader.proofs.leader.Leader.taken.Goals as goal

pub returns-in-Done-clause-leading : goal.returns-in-Done-clause-leading
returns-in-Done-clause-leading c machine = rw (c.in-Done.is) (c.done.ensures.leading c.args.ids c.args.parts c.args.part c.args.from machine)

pub returns-in-Done-clause-proposed : goal.returns-in-Done-clause-proposed
returns-in-Done-clause-proposed c machine = rw (c.in-Done.is) (c.done.ensures.proposed c.args.ids c.args.parts c.args.part c.args.from machine)

pub returns-in-Fenced-clause-leading : goal.returns-in-Fenced-clause-leading
returns-in-Fenced-clause-leading c machine = rw (c.in-Fenced.is) (c.fenced.ensures.leading c.args.ids c.args.parts c.args.part c.args.from machine)

pub returns-in-Fenced-clause-proposed : goal.returns-in-Fenced-clause-proposed
returns-in-Fenced-clause-proposed c machine = rw (c.in-Fenced.is) (c.fenced.ensures.proposed c.args.ids c.args.parts c.args.part c.args.from machine)

pub returns-in-Request-clause-leading : goal.returns-in-Request-clause-leading
returns-in-Request-clause-leading c machine = rw (c.in-Request.is) (sym (ap (λ (made : Taken). made.leading) (requested_is c.args.ids c.args.parts c.args.part (leads c.args.self.now) c.in-Request.entry)))

pub returns-in-Request-clause-proposed : goal.returns-in-Request-clause-proposed
returns-in-Request-clause-proposed c machine = rw (c.in-Request.is) (c.requested.ensures ∙ sym (ap (λ (made : Taken). made.proposals) (requested_is c.args.ids c.args.parts c.args.part (leads c.args.self.now) c.in-Request.entry)))

pub returns-in-Request-clause-silent : goal.returns-in-Request-clause-silent
returns-in-Request-clause-silent c machine = rw (c.in-Request.is) (ap (λ (made : Taken). made.letters) (requested_is c.args.ids c.args.parts c.args.part (leads c.args.self.now) c.in-Request.entry))
