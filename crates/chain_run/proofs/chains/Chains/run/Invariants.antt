use Rattle.std.proofs.Common.{◌≡◌, take}
use Rattle.chain_world.specs.World.{run}
use Rattle.chain_run.specs.Shows.{world_of}
use Rattle.chain_run.proofs.chains.Chains.run.Given as goal

-- the world behind as many events as were gone over
abbrev pub invariant-loop-event : goal.invariant-loop-event
invariant-loop-event l = world_of l.chains ≡ run l.ids l.parts (take l.event-index l.event-items)
