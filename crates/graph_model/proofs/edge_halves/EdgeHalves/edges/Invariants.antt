use Rattle.std.proofs.Common.{◌≡◌, take, map}
use Rattle.graph_model.proofs.edge_halves.EdgeHalves.edges.Given as goal

-- the edges so far
abbrev pub invariant-loop-half : goal.invariant-loop-half
invariant-loop-half l = l.made ≡ map (λ x. x.0) (take l.half-index l.half-items)
