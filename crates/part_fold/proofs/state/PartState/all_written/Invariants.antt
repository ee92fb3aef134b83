use Rattle.std.proofs.Common.{◌≡◌, drop}
use Rattle.part_rules.specs.Part.{all_written}
use Rattle.part_fold.specs.State.{part_of}
use Rattle.part_fold.proofs.state.PartState.all_written.Given as goal

-- what is left tells
abbrev pub invariant-loop-edge : goal.invariant-loop-edge
invariant-loop-edge l = all_written (part_of l.self) l.v (drop l.edge-index l.edges) ≡ all_written (part_of l.self) l.v l.edges
