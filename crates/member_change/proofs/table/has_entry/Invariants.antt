use Rattle.std.proofs.Common.{◌≡◌, ◌≤◌, take, length}
use Rattle.raft_log.specs.Log.{has_entry_of}
use Rattle.member_change.proofs.table.has_entry.Given as goal

abbrev pub decreases-loop-left : goal.decreases-loop-left
decreases-loop-left l = l.left

-- none of the entries behind these has the term
abbrev pub invariant-loop-left : goal.invariant-loop-left
invariant-loop-left l = record {
  within : l.left ≤ length l.log.0;
  none : has_entry_of l.term (take l.last l.log.0) ≡ has_entry_of l.term (take l.left l.log.0);
}
