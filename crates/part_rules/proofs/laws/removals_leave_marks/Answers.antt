use Rattle.part_rules.proofs.FoldsAt.{in_marked}
use Rattle.part_rules.proofs.laws.removals_leave_marks.Goals as goal

pub returns : goal.returns
returns c = in_marked
