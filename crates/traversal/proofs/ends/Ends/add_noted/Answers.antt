use Rattle.std.proofs.Common.{sym, ◌∙◌}
use Rattle.traversal.proofs.SetLemmas.{noted_kept, noted_put}
use Rattle.traversal.proofs.ends.Ends.add_noted.Goals as goal

pub returns-in_err-add-2-clause-undone : goal.returns-in_err-add-2-clause-undone
returns-in_err-add-2-clause-undone c =
    noted_kept c.args.v.now c.args.fresh.now.items c.args.self.now c.add-2.new.self c.push.new.self.items c.in_ok-push.ensures.items c.in_err-add-2.ensures.err (sym c.has.ensures ∙ c.if-has.false)

pub returns-clause-undone : goal.returns-clause-undone
returns-clause-undone c =
    noted_put c.args.v.now c.args.fresh.now.items c.args.self.now c.add-2.new.self c.push.new.self.items c.in_ok-push.ensures.items c.in_ok-add-2.ensures.ok (sym c.has.ensures ∙ c.if-has.false)
