use Rattle.std.proofs.Common.{◌≡◌, drop}
use Rattle.chain_world.specs.Events.{are_at_most}
use Rattle.chain_run.proofs.leading.are_at_most.Given as goal

-- what is left tells
abbrev pub invariant-loop-item : goal.invariant-loop-item
invariant-loop-item l = are_at_most l.term (drop l.item-index l.items) ≡ are_at_most l.term l.items
