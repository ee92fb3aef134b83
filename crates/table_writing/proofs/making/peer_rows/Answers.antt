use Rattle.std.proofs.Common.{◌≡◌, ◌+◌, suc, ap, ◌∙◌, arith}
use Rattle.meta_parts.specs.Table as rules
use Rattle.table_writing.proofs.Numbers.{one_more}
use Rattle.table_writing.proofs.making.peer_rows.Goals as goal

pub loop-i-preserved : goal.loop-i-preserved
loop-i-preserved c =
    let here : c.loop-i.i + 1 ≡ suc c.loop-i.i = omega arith in
    one_more (rules.peer_row c.args.up.now c.args.part) _ c.loop-i.list c.push.new.self _ c.loop-i.i c.args.factor c.loop-i-test.true c.loop-i.invariant c.in_ok-push.ensures.ok
    (c.node_of-node.ensures ∙ ap (rules.peer_row c.args.up.now c.args.part) here)
