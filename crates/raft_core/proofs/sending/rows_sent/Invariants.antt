use Rattle.std.proofs.Common.{◌≡◌, take, map}
use Rattle.raft_core.specs.Ahead.{core_with}
use Rattle.raft_core.specs.Appends.{row_sent}
use Rattle.raft_core.proofs.sending.rows_sent.Given as goal

abbrev pub invariant-loop-row : goal.invariant-loop-row
invariant-loop-row l = l.all ≡ map (row_sent (core_with l.state l.log)) (take l.row-index l.state.rows)
