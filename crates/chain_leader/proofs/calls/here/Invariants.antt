use Rattle.std.proofs.Common.{◌≡◌, take, map}
use Rattle.graph_model.specs.declared.half.Half.TheVariants.{Here}
use Rattle.chain_leader.proofs.calls.here.Given as goal

-- the edges so far, each with its row
abbrev pub invariant-loop-row : goal.invariant-loop-row
invariant-loop-row l = l.made ≡ map (λ x. (x.0, Here x.1)) (take l.row-index l.rows)
