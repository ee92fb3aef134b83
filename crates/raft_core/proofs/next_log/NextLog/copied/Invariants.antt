use Rattle.std.proofs.Common.{◌≡◌, take, drop}
use Rattle.raft_core.proofs.next_log.NextLog.copied.Given as goal

abbrev pub invariant-loop-k : goal.invariant-loop-k
invariant-loop-k l = l.entries ≡ take l.k (drop l.behind l.self)
