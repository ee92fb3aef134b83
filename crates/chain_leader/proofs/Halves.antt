-- The edges of a list of rows, and of their halves.
use Rattle.std.proofs.Common.{◌≡◌, List, [], ◌∷◌, map, refl, ap}
use Rattle.graph_model.specs.declared.val.Val.{Val}
use Rattle.graph_model.specs.declared.edge_id.EdgeId.{EdgeId}
use Rattle.graph_model.specs.declared.half.Half.TheVariants.{Here}
use Rattle.graph_model.specs.Edges.{edges_in, edges_among}

pub edges_put : (rows : List (EdgeId × List Val)) → edges_in (map (λ x. (x.0, Here x.1)) rows) ≡ edges_among rows
edges_put [] = refl
edges_put (x ∷ rows) = ap (λ es. x.0 ∷ es) (edges_put rows)
