use Rattle.std.proofs.Common.{◌≡◌, ◌≤◌, length, take}
use Rattle.raft_log.specs.Log.{config_index}
use Rattle.raft_log.proofs.PlaceLemmas.{last_up_to}
use Rattle.raft_log.proofs.log.RaftLog.config_index.Given as goal

abbrev pub decreases-loop-left : goal.decreases-loop-left
decreases-loop-left l = l.left

-- the places behind these are above the index
abbrev pub invariant-loop-left : goal.invariant-loop-left
invariant-loop-left l = record {
  within : l.left ≤ length l.places;
  last : last_up_to l.index 0 (take l.left l.places) ≡ config_index (take l.index l.self.0);
}
