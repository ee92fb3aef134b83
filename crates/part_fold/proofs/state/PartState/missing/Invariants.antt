use Rattle.std.proofs.Common.{◌≡◌, ◌++◌, drop}
use Rattle.maps.specs.Lists.{missing}
use Rattle.part_fold.proofs.state.PartState.missing.Given as goal

-- what is made, and what is left to make
abbrev pub invariant-loop-half : goal.invariant-loop-half
invariant-loop-half l = l.made ++ missing l.self.out (drop l.half-index l.list) ≡ missing l.self.out l.list
