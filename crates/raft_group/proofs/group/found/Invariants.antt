use Rattle.std.proofs.Common.{ℕ, List, ◌++◌, take}
use Rattle.raft_group.specs.Held.{AreFounded}
use Rattle.raft_group.proofs.group.found.Given as goal

-- as many as were gone over are placed
abbrev pub invariant-loop-id : goal.invariant-loop-id
invariant-loop-id l = (before : List ℕ) → AreFounded l.first before l.fn.peers → AreFounded l.first (before ++ take l.id-index l.ids) l.peers
