use Rattle.std.proofs.Common.{◌≡◌, suc, ◌-◌, arith}
use Rattle.raft_core.proofs.Joined.{joins_next}
use Rattle.raft_core.proofs.votes.joined.Goals as goal

pub with-all-requires-clause-few : goal.with-all-requires-clause-few
with-all-requires-clause-few c =
    let e : c.loop-left.left ≡ suc (c.loop-left.left - 1) = omega (arith, c.loop-left-test.true) in
    let n = joins_next c.args.config.now c.loop-left.left (c.loop-left.left - 1) c.requires c.as_slice-learners.ensures.peers e c.loop-left.invariant.within in
    rw c.loop-left.invariant.so_far n.few

pub with-all-requires-clause-apart : goal.with-all-requires-clause-apart
with-all-requires-clause-apart c =
    let e : c.loop-left.left ≡ suc (c.loop-left.left - 1) = omega (arith, c.loop-left-test.true) in
    let n = joins_next c.args.config.now c.loop-left.left (c.loop-left.left - 1) c.requires c.as_slice-learners.ensures.peers e c.loop-left.invariant.within in
    rw (c.loop-left.invariant.so_far, c.as_slice-learners.ensures.ids) n.apart
