use Rattle.std.proofs.Common.{◌-◌, ◌<◌, length, sym, ◌∙◌, arith}
use Rattle.raft_core.specs.Commits.{known_of}
use Rattle.raft_core.proofs.Numbers.{greater, as_great}
use Rattle.raft_core.proofs.counting.greatest_had.Goals as goal

pub loop-left-preserved-then-is_had : goal.loop-left-preserved-then-is_had
loop-left-preserved-then-is_had c =
    let ids = c.as_slice-ids.result.now in
    let left = c.loop-left.left in
    let within : left - 1 < length ids = omega (arith, c.loop-left-test.true, c.loop-left.invariant.within) in
    let e = rw c.known_of-known.ensures at (sym c.is_had.ensures ∙ c.if-is_had.true) in
    record {
      within = omega (arith, c.loop-left.invariant.within);
      so_far = rw (c.max-greatest.ensures, c.known_of-known.ensures, c.loop-left.invariant.so_far) (greater (known_of c.args.state.now c.args.last) c.args.voters.now ids left c.loop-left-test.true within e);
    }

pub loop-left-preserved : goal.loop-left-preserved
loop-left-preserved c =
    let ids = c.as_slice-ids.result.now in
    let left = c.loop-left.left in
    let within : left - 1 < length ids = omega (arith, c.loop-left-test.true, c.loop-left.invariant.within) in
    let e = rw c.known_of-known.ensures at (sym c.is_had.ensures ∙ c.if-is_had.false) in
    record {
      within = omega (arith, c.loop-left.invariant.within);
      so_far = rw c.loop-left.invariant.so_far (as_great (known_of c.args.state.now c.args.last) c.args.voters.now ids left c.loop-left-test.true within e);
    }
