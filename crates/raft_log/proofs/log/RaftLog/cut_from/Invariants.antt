use Rattle.std.proofs.Common.{◌≡◌, ◌-◌, ◌≤◌, max, take, length}
use Rattle.raft_log.proofs.log.RaftLog.cut_from.Given as goal

-- the log without as many entries as were taken off
abbrev pub invariant-loop : goal.invariant-loop
invariant-loop l = record {
  from : l.index ≤ l.counter;
  within : l.counter ≤ max l.index l.end;
  room : l.fn.self.1 ≤ l.self.1;
  cut : l.self.0 ≡ take (length l.fn.self.0 - (l.counter - l.index)) l.fn.self.0;
}
