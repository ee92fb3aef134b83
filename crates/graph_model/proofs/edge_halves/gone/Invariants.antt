use Rattle.std.proofs.Common.{◌≡◌, take, map}
use Rattle.graph_model.specs.declared.half.Half.TheVariants.{Absent}
use Rattle.graph_model.proofs.edge_halves.gone.Given as goal

-- the edges so far, without rows
abbrev pub invariant-loop-edge : goal.invariant-loop-edge
invariant-loop-edge l = l.made ≡ map (λ e. (e, Absent)) (take l.edge-index l.edges)
