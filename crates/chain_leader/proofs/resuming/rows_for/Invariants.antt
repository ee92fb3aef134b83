use Rattle.std.proofs.Common.{◌≡◌, take, map}
use Rattle.chain_leader.specs.Resuming.{row_for}
use Rattle.chain_leader.proofs.resuming.rows_for.Given as goal

-- the rows so far
abbrev pub invariant-loop-rec : goal.invariant-loop-rec
invariant-loop-rec l = l.rows.items ≡ map (row_for l.policy) (take l.rec-index l.standing)
