use Rattle.std.proofs.Common.{arith}
use Rattle.world_mail.specs.Blocks.{sent_in}
use Rattle.world_mail.proofs.Marking.{front_step, front_here, front_end}
use Rattle.world_mail.proofs.mail.front_from.Goals as goal

pub loop-front-preserved : goal.loop-front-preserved
loop-front-preserved c = let n = front_step (sent_in c.args.blocks.now) c.loop-front.front c.sent_at.result.now c.loop-front.invariant c.sent_at.ensures c.if-sent_at.true in omega (arith, n)

pub returns-else-sent_at : goal.returns-else-sent_at
returns-else-sent_at c = front_here (sent_in c.args.blocks.now) c.loop-front.front c.sent_at.result.now c.loop-front.invariant c.sent_at.ensures c.if-sent_at.false

pub returns-after-loop-front : goal.returns-after-loop-front
returns-after-loop-front c = let end = front_end (sent_in c.args.blocks.now) in omega (arith, end, c.loop-front.invariant, c.requires.len, c.loop-front-test.false)
