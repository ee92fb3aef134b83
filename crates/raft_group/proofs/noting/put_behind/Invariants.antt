use Rattle.std.proofs.Common.{◌≡◌, ◌++◌, take}
use Rattle.raft_group.proofs.noting.put_behind.Given as goal

-- as many as were gone over are behind
abbrev pub invariant-loop-entry : goal.invariant-loop-entry
invariant-loop-entry l = l.entries ≡ l.fn.entries ++ take l.entry-index l.more
