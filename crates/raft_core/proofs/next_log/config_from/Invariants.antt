use Rattle.std.proofs.Common.{◌≡◌, take}
use Rattle.raft_log.specs.Log.{config_from}
use Rattle.raft_core.proofs.next_log.config_from.Given as goal

-- the last configuration so far
abbrev pub invariant-loop-entry : goal.invariant-loop-entry
invariant-loop-entry l = l.config ≡ config_from l.fn.config (take l.entry-index l.entries)
