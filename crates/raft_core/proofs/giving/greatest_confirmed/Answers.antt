use Rattle.std.proofs.Common.{◌-◌, ◌<◌, length, sym, ◌∙◌, arith}
use Rattle.raft_core.proofs.Confirming.{greater, as_great}
use Rattle.raft_core.proofs.giving.greatest_confirmed.Goals as goal

pub loop-left-preserved-then-is_confirmed : goal.loop-left-preserved-then-is_confirmed
loop-left-preserved-then-is_confirmed c =
    let ids = c.as_slice-ids.result.now in
    let left = c.loop-left.left in
    let within : left - 1 < length ids = omega (arith, c.loop-left-test.true, c.loop-left.invariant.within) in
    let e = rw c.confirmed_by-round.ensures at (sym c.is_confirmed.ensures ∙ c.if-is_confirmed.true) in
    record {
      within = omega (arith, c.loop-left.invariant.within);
      so_far = rw (c.max-greatest.ensures, c.confirmed_by-round.ensures, c.loop-left.invariant.so_far) (greater c.args.state.now c.args.voters.now ids left c.loop-left-test.true within e);
    }

pub loop-left-preserved : goal.loop-left-preserved
loop-left-preserved c =
    let ids = c.as_slice-ids.result.now in
    let left = c.loop-left.left in
    let within : left - 1 < length ids = omega (arith, c.loop-left-test.true, c.loop-left.invariant.within) in
    let e = rw c.confirmed_by-round.ensures at (sym c.is_confirmed.ensures ∙ c.if-is_confirmed.false) in
    record {
      within = omega (arith, c.loop-left.invariant.within);
      so_far = rw c.loop-left.invariant.so_far (as_great c.args.state.now c.args.voters.now ids left c.loop-left-test.true within e);
    }
