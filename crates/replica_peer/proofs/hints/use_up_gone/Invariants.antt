use Rattle.std.proofs.Common.{◌≡◌, ℕ, drop}
use Rattle.std.specs.Prelude.{◌&&◌, not}
use Rattle.std.specs.FinMap.{contains_key}
use Rattle.replica_state.specs.Places.{number_held}
use Rattle.replica_peer.specs.Ended.{ends_among}
use Rattle.replica_peer.proofs.Spent.{zero_where}
use Rattle.replica_peer.proofs.hints.use_up_gone.Given as goal

-- without the others too they are as they have to be
abbrev pub invariant-loop-placed : goal.invariant-loop-placed
invariant-loop-placed l = (v : ℕ) → zero_where (ends_among v (drop l.placed-index l.entries) && not (contains_key l.table.0 v)) (number_held l.hints.entries v) ≡ zero_where (ends_among v l.entries && not (contains_key l.table.0 v)) (number_held l.fn.hints.entries v)
