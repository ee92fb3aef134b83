use Rattle.table_writing.proofs.Numbers.{number_more}
use Rattle.table_writing.proofs.making.numbers.Goals as goal

pub loop-i-preserved : goal.loop-i-preserved
loop-i-preserved c = number_more _ c.loop-i.list c.push.new.self c.loop-i.i c.args.count c.loop-i-test.true c.loop-i.invariant c.in_ok-push.ensures.ok
