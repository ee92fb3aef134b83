use Rattle.std.proofs.Common.{◌≡◌, drop}
use Rattle.maps.specs.Keys.{has_key}
use Rattle.graph_model.specs.Edges.{edges_in}
use Rattle.graph_model.specs.Keys.{edge_cmp}
use Rattle.part_fold.proofs.standing.is_on.Given as goal

-- what is left tells
abbrev pub invariant-loop-half : goal.invariant-loop-half
invariant-loop-half l = has_key edge_cmp l.edge (edges_in (drop l.half-index l.half-items)) ≡ has_key edge_cmp l.edge (edges_in l.chain.list)
