use Rattle.byte_fields.specs.Reading.{many_at}
use Rattle.byte_fields.proofs.Loops.{many_goes_on, many_ends, many_done}
use Rattle.graph_bytes.specs.Reading.{found_at}
use Rattle.graph_bytes.proofs.answers.read_each.Goals as goal

pub returns-in-Err : goal.returns-in-Err
returns-in-Err c =
    many_ends (found_at c.args.form) c.in-Err.refused c.loop.list c.args.count c.loop.counter c.loop.rest.now (many_at (found_at c.args.form) c.args.count c.args.bytes.now) c.loop-test.true c.in-Err.ensures c.loop.invariant

pub loop-preserved : goal.loop-preserved
loop-preserved c =
    rw c.in_ok-push.ensures.ok (many_goes_on (found_at c.args.form) c.loop.list c.args.count c.loop.counter c.loop.rest.now c.in-Ok.found.0 c.in-Ok.found.1.now (many_at (found_at c.args.form) c.args.count c.args.bytes.now) c.loop-test.true c.in-Ok.ensures c.loop.invariant)

pub returns : goal.returns
returns c =
    many_done (found_at c.args.form) c.loop.list c.args.count c.loop.counter c.loop.rest.now (many_at (found_at c.args.form) c.args.count c.args.bytes.now) c.loop-test.false c.loop.invariant
