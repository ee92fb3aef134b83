use Rattle.std.proofs.Common.{◌≡◌, take}
use Rattle.replica_state.proofs.waiting.copied_view.Given as goal

-- the copy so far
abbrev pub invariant-loop-found : goal.invariant-loop-found
invariant-loop-found l = l.copy ≡ take l.found-index l.view
