use Rattle.std.proofs.Common.{◌≡◌, drop}
use Rattle.chain_world.specs.Events.{are_below}
use Rattle.chain_run.proofs.leading.are_below.Given as goal

-- what is left tells
abbrev pub invariant-loop-item : goal.invariant-loop-item
invariant-loop-item l = are_below l.term (drop l.item-index l.items) ≡ are_below l.term l.items
