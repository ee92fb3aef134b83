use Rattle.std.proofs.Common.{◌≡◌, ℕ, List, ◌≤◌, length, take}
use Rattle.fault_schedule.specs.Words.{without_spaces}
use Rattle.fault_schedule.proofs.line.without_spaces.Given as goal

pub record Reached (end : ℕ) (line : List ℕ) : Type 0 where
  pub within : end ≤ length line
  pub same : without_spaces (take end line) ≡ without_spaces line

abbrev pub invariant-loop-end : goal.invariant-loop-end
invariant-loop-end l = Reached l.end l.line

abbrev pub decreases-loop-end : goal.decreases-loop-end
decreases-loop-end l = l.end
