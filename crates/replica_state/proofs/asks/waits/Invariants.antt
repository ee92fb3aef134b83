use Rattle.std.proofs.Common.{◌≡◌, drop, map}
use Rattle.replica_model.specs.Replica.{waits}
use Rattle.replica_state.specs.State.{row_of}
use Rattle.replica_state.proofs.asks.waits.Given as goal

-- what is left tells
abbrev pub invariant-loop-row : goal.invariant-loop-row
invariant-loop-row l = waits (map row_of (drop l.row-index l.rows)) l.id ≡ waits (map row_of l.rows) l.id
