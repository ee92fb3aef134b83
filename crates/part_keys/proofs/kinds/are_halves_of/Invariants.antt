use Rattle.std.proofs.Common.{◌≡◌, drop}
use Rattle.std.specs.List.{list_all}
use Rattle.graph_model.specs.declared.edge_id.EdgeId.{EdgeId}
use Rattle.graph_model.specs.declared.half.Half.{Half}
use Rattle.part_keys.specs.Kinds.{is_edge_of}
use Rattle.part_keys.proofs.kinds.are_halves_of.Given as goal

-- what is left tells
abbrev pub invariant-loop-half : goal.invariant-loop-half
invariant-loop-half l = list_all (λ (x : EdgeId × Half). is_edge_of l.ids x.0) (drop l.half-index l.list) ≡ list_all (λ (x : EdgeId × Half). is_edge_of l.ids x.0) l.list
