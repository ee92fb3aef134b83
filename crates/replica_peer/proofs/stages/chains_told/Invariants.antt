use Rattle.std.proofs.Common.{◌≡◌, ◌++◌, drop}
use Rattle.replica_peer.specs.Stages.{told_by}
use Rattle.replica_peer.proofs.stages.chains_told.Given as goal

-- what is told, with what is left to tell
abbrev pub invariant-loop-letter : goal.invariant-loop-letter
invariant-loop-letter l = l.told.items ++ told_by (drop l.letter-index l.list) ≡ told_by l.fn.list
