use Rattle.std.proofs.Common.{◌++◌, ap, ◌∙◌}
use Rattle.part_fold.proofs.Shown.{found_here}
use Rattle.part_fold.proofs.state.PartState.push_ins.Goals as goal

pub returns : goal.returns
returns c = c.in_ok-push_of.ensures ∙ ap (λ l. c.args.found.now ++ l) (found_here c.args.v.now c.args.types.now c.args.self.now.inn)
