use Rattle.std.proofs.Common.{◌≡◌, drop}
use Rattle.std.specs.List.{list_all}
use Rattle.graph_model.specs.Edges.{is_positive}
use Rattle.graph_model.proofs.edges.are_positive.Given as goal

-- what is left tells
abbrev pub invariant-loop-edge : goal.invariant-loop-edge
invariant-loop-edge l = list_all is_positive (drop l.edge-index l.edges) ≡ list_all is_positive l.edges
