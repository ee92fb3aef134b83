use Rattle.std.proofs.Common.{◌≡◌, length}
use Rattle.traversal.specs.Sets.{without_all}
use Rattle.traversal.proofs.ends.Ends.take_out.Given as goal

abbrev pub invariant-loop-v : goal.invariant-loop-v
invariant-loop-v l = without_all l.fresh.items l.self ≡ without_all l.fn.fresh.items l.fn.self

abbrev pub decreases-loop-v : goal.decreases-loop-v
decreases-loop-v l = length l.fresh.items
