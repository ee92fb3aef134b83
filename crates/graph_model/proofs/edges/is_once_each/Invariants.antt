use Rattle.std.proofs.Common.{◌≡◌, drop}
use Rattle.graph_model.specs.Ops.{is_once_each}
use Rattle.graph_model.proofs.edges.is_once_each.Given as goal

-- what is left tells
abbrev pub invariant-loop-i : goal.invariant-loop-i
invariant-loop-i l = is_once_each (drop l.i l.edges) ≡ is_once_each l.edges
