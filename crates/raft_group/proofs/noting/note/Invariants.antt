use Rattle.std.proofs.Common.{◌≡◌, ◌++◌, take, map}
use Rattle.raft_group.specs.Group.{sent_by}
use Rattle.raft_group.proofs.noting.note.Given as goal

-- as many as were gone over are noted
abbrev pub invariant-loop-send : goal.invariant-loop-send
invariant-loop-send l = l.sent ≡ l.fn.sent ++ map (sent_by l.from) (take l.send-index l.send-items)
