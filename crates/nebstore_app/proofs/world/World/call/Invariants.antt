use Rattle.nebstore_app.proofs.Calling.{IsMade}
use Rattle.nebstore_app.proofs.Weights.{weight}
use Rattle.nebstore_app.proofs.world.World.call.Given as goal

-- the call is made, and isn't answered yet
abbrev pub invariant-loop-self : goal.invariant-loop-self
invariant-loop-self l = IsMade l.fn.self l.self l.fn.op

abbrev pub decreases-loop-self : goal.decreases-loop-self
decreases-loop-self l = weight l.self.waiting
