use Rattle.std.proofs.Common.{◌≡◌, drop}
use Rattle.std.specs.List.{list_any}
use Rattle.part_rules.specs.Part.{is_fresh}
use Rattle.part_fold.specs.State.{part_of}
use Rattle.part_fold.proofs.state.PartState.is_any_fresh.Given as goal

-- what is left tells
abbrev pub invariant-loop-half : goal.invariant-loop-half
invariant-loop-half l = list_any (is_fresh (part_of l.self) l.v) (drop l.half-index l.list) ≡ list_any (is_fresh (part_of l.self) l.v) l.list
