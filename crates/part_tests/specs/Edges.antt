-- Two edges from 1, of type 1 and rank 0.
use Rattle.std.specs.Prelude.{ℕ, pos, List, [], ◌∷◌}
use Rattle.graph_model.specs.declared.edge_id.EdgeId.{EdgeId}
use Rattle.graph_model.specs.declared.half.Half.{Half}
use Rattle.graph_model.specs.declared.half.Half.TheVariants.{Absent, Here}
use Rattle.graph_model.specs.declared.val.Val.TheVariants.{Int}
use Rattle.graph_model.specs.declared.vid.Vid.TheVariants.{Num}

-- the edge from 1 to this vertex
abbrev pub edge_to : ℕ → EdgeId
edge_to n = record { src = Num (pos 1); etype = pos 1; rank = pos 0; dst = Num (pos n) }

-- the first with the row (90), the second removed
abbrev pub two_edges : List (EdgeId × Half)
two_edges = (edge_to 2, Here (Int (pos 90) ∷ [])) ∷ (edge_to 4, Absent) ∷ []

-- the edge from 2 to 1 with the row (90)
abbrev pub edge_back : List (EdgeId × Half)
edge_back = (record { src = Num (pos 2); etype = pos 1; rank = pos 0; dst = Num (pos 1) }, Here (Int (pos 90) ∷ [])) ∷ []
