use Rattle.std.proofs.Common.{◌≡◌, drop}
use Rattle.std.specs.List.{list_all}
use Rattle.part_keys.specs.Kinds.{is_edge_of}
use Rattle.part_keys.proofs.kinds.are_edges_of.Given as goal

-- what is left tells
abbrev pub invariant-loop-edge : goal.invariant-loop-edge
invariant-loop-edge l = list_all (is_edge_of l.ids) (drop l.edge-index l.edges) ≡ list_all (is_edge_of l.ids) l.edges
