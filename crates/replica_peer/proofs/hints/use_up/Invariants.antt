use Rattle.std.proofs.Common.{◌≡◌, ℕ, drop}
use Rattle.std.specs.Prelude.{◌==◌}
use Rattle.std.specs.List.{list_any}
use Rattle.replica_state.specs.Places.{number_held}
use Rattle.replica_peer.proofs.Spent.{zero_where}
use Rattle.replica_peer.proofs.hints.use_up.Given as goal

-- without the others too they are as they have to be
abbrev pub invariant-loop-v : goal.invariant-loop-v
invariant-loop-v l = (v : ℕ) → zero_where (list_any (λ w. v == w) (drop l.v-index l.told)) (number_held l.hints.entries v) ≡ zero_where (list_any (λ w. v == w) l.told) (number_held l.fn.hints.entries v)
