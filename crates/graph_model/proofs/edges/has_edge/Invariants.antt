use Rattle.std.proofs.Common.{◌≡◌, drop}
use Rattle.maps.specs.Keys.{has_key}
use Rattle.graph_model.specs.Keys.{edge_cmp}
use Rattle.graph_model.proofs.edges.has_edge.Given as goal

-- what is left tells
abbrev pub invariant-loop-other : goal.invariant-loop-other
invariant-loop-other l = has_key edge_cmp l.edge (drop l.other-index l.edges) ≡ has_key edge_cmp l.edge l.edges
