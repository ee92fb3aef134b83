use Rattle.std.proofs.Common.{◌≡◌, ◌++◌, drop, filter}
use Rattle.part_rules.specs.Part.{is_fresh}
use Rattle.part_fold.specs.State.{part_of}
use Rattle.part_fold.proofs.state.PartState.fresh_of.Given as goal

-- what is made, and what is left to make
abbrev pub invariant-loop-half : goal.invariant-loop-half
invariant-loop-half l = l.made ++ filter (is_fresh (part_of l.self) l.v) (drop l.half-index l.list) ≡ filter (is_fresh (part_of l.self) l.v) l.list
