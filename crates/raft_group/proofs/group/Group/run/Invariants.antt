use Rattle.std.proofs.Common.{take}
use Rattle.raft_group.specs.Group.{run}
use Rattle.raft_group.specs.Held.{AreSent, Holds}
use Rattle.raft_group.proofs.group.Group.run.Given as goal

-- the group behind as many events as were gone over
abbrev pub invariant-loop-event : goal.invariant-loop-event
invariant-loop-event l = record { is : Holds l.group (run l.first (take l.event-index l.event-items)); sent : AreSent l.group.sent }
