-- what is left tells
use Rattle.std.proofs.Common.{◌≡◌, drop}
use Rattle.graph_model.specs.Keys.{edge_cmp}
use Rattle.maps.specs.Keys.{has_key}
use Rattle.schema_book.proofs.dels.has_edge.Given as goal

abbrev pub invariant-loop-other : goal.invariant-loop-other
invariant-loop-other l = has_key edge_cmp l.edge (drop l.other-index l.edges) ≡ has_key edge_cmp l.edge l.edges
