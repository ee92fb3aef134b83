use Rattle.std.proofs.Common.{◌≡◌}
use Rattle.part_machine.specs.Chains.{standing}
use Rattle.part_machine.proofs.chains.drop_places.Given as goal

-- the chains stay
abbrev pub invariant-loop-v : goal.invariant-loop-v
invariant-loop-v l = standing l.places.entries ≡ standing l.fn.places.entries
