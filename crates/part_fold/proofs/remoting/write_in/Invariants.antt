use Rattle.std.proofs.Common.{◌≡◌, ◌≤◌, drop, length}
use Rattle.maps.specs.Lists.{put_all}
use Rattle.part_rules.specs.Machine.{in_halves}
use Rattle.part_fold.proofs.remoting.write_in.Given as goal

-- those behind the ones that are left are written
abbrev pub invariant-halves : goal.invariant-halves
invariant-halves l = record { few : l.left ≤ length l.list; written : l.inn ≡ put_all l.fn.inn (in_halves l.v (drop l.left l.list)) }

abbrev pub decreases-halves : goal.decreases-halves
decreases-halves l = l.left
