use Rattle.std.proofs.Common.{◌≡◌, ◌++◌, List, length, take}
use Rattle.raft_log.specs.declared.entry.Entry.{Entry}
use Rattle.raft_log.specs.Log.{config_index}
use Rattle.raft_core.proofs.next_log.index_from.Given as goal

-- its index so far
abbrev pub invariant-loop-k : goal.invariant-loop-k
invariant-loop-k l = (log : List Entry) → l.keep ≡ length log → l.fn.index ≡ config_index log → l.index ≡ config_index (log ++ take l.k l.entries)
