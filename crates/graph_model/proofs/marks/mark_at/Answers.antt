use Rattle.graph_model.proofs.Marking.{added_grows, added_here}
use Rattle.graph_model.proofs.marks.mark_at.Goals as goal

pub returns-clause-grows : goal.returns-clause-grows
returns-clause-grows c = added_grows c.args.marks.now.entries c.insert.new.self.entries c.of.result _ c.in_ok-insert.ensures.updates.0

pub returns-clause-marked : goal.returns-clause-marked
returns-clause-marked c = added_here c.args.marks.now.entries c.insert.new.self.entries c.of.result _ c.in_ok-insert.ensures.updates.0 c.args.v.now c.args.step c.of.ensures
