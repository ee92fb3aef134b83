use Rattle.std.proofs.Common.{◌≡◌, drop}
use Rattle.graph_model.specs.Edges.{edges_in}
use Rattle.maps.specs.Lists.{has_all}
use Rattle.part_fold.proofs.state.PartState.has_all.Given as goal

-- what is left tells
abbrev pub invariant-loop-half : goal.invariant-loop-half
invariant-loop-half l = has_all l.self.out (edges_in (drop l.half-index l.list)) ≡ has_all l.self.out (edges_in l.list)
