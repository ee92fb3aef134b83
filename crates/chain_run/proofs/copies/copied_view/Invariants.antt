use Rattle.std.proofs.Common.{◌≡◌, take}
use Rattle.chain_run.proofs.copies.copied_view.Given as goal

-- so far the front is copied
abbrev pub invariant-loop-found : goal.invariant-loop-found
invariant-loop-found l = l.made ≡ take l.found-index l.found-items
