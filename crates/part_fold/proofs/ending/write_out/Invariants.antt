use Rattle.std.proofs.Common.{◌≡◌, ◌≤◌, drop, length}
use Rattle.part_rules.specs.Machine.{out_written}
use Rattle.part_fold.proofs.ending.write_out.Given as goal

-- those behind the ones that are left are written
abbrev pub invariant-halves : goal.invariant-halves
invariant-halves l = record { few : l.left ≤ length l.list; written : l.out ≡ out_written l.fn.out (drop l.left l.list) }

abbrev pub decreases-halves : goal.decreases-halves
decreases-halves l = l.left
