use Rattle.std.proofs.Common.{◌≡◌, max}
use Rattle.raft_core.specs.Appends.{greatest_committable, committing}
use Rattle.raft_core.specs.Ahead.{core_with}
use Rattle.raft_core.proofs.counting.committed.Given as goal

abbrev pub decreases-loop-left : goal.decreases-loop-left
decreases-loop-left l = l.left

-- no index above this one is committable
abbrev pub invariant-loop-left : goal.invariant-loop-left
invariant-loop-left l = max l.state.commit (greatest_committable (core_with l.state l.log) l.left) ≡ (committing (core_with l.state l.log)).commit
