use Rattle.std.proofs.Common.{take}
use Rattle.raft_log.specs.Config.{AreEntries}
use Rattle.replica_tests.proofs.hearing.are_entries.Given as goal

-- those before it are ones
abbrev pub invariant-loop-entry : goal.invariant-loop-entry
invariant-loop-entry l = AreEntries (take l.entry-index l.entries)
