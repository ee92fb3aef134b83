use Rattle.std.proofs.Common.{◌≡◌, drop}
use Rattle.std.specs.Option.{option_map}
use Rattle.graph_model.specs.Edges.{edges_in}
use Rattle.part_rules.specs.Part.{chain_on_any}
use Rattle.part_fold.specs.Standing.{id_of}
use Rattle.part_fold.specs.State.{part_of}
use Rattle.part_fold.proofs.state.PartState.call_on_any.Given as goal

-- what is left tells
abbrev pub invariant-loop-half : goal.invariant-loop-half
invariant-loop-half l = option_map id_of (chain_on_any (part_of l.self) (edges_in (drop l.half-index l.list))) ≡ option_map id_of (chain_on_any (part_of l.self) (edges_in l.list))
