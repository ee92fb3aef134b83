use Rattle.std.proofs.Common.{◌≡◌, ◌+◌, suc, ap, arith}
use Rattle.meta_parts.specs.Table as rules
use Rattle.table_writing.proofs.Numbers.{one_more}
use Rattle.table_writing.proofs.making.part_rows.Goals as goal

pub loop-i-preserved : goal.loop-i-preserved
loop-i-preserved c =
    let here : c.loop-i.i + 1 ≡ suc c.loop-i.i = omega arith in
    let next : c.args.factor + 1 ≡ suc c.args.factor = omega arith in
    one_more (rules.part_row c.args.factor c.args.up.now) _ c.loop-i.list c.push.new.self _ c.loop-i.i c.args.parts c.loop-i-test.true c.loop-i.invariant c.in_ok-push.ensures.ok
    (rw (c.in_ok-peers.ensures, next) (ap (rules.part_row c.args.factor c.args.up.now) here))
