use Rattle.std.proofs.lemmas.Result.{err_from_is_err_and}
use Rattle.byte_fields.specs.Reading.{many_at}
use Rattle.byte_fields.proofs.Loops.{many_goes_on, many_ends, many_done}
use Rattle.wal_frames.specs.Reading.{entry_at}
use Rattle.wal_frames.proofs.reading.read_counted.Goals as goal

pub returns-in_err-entry : goal.returns-in_err-entry
returns-in_err-entry c =
    let p = err_from_is_err_and c.from_residual.result c.from_residual.ensures.1 in
    rw (p.1, p.2) (many_ends entry_at c.in_err-entry.field-0.0 c.loop.entries c.args.count c.loop.counter c.loop.rest.now (many_at entry_at c.args.count c.args.bytes.now) c.loop-test.true c.in_err-entry.ensures c.loop.invariant)

pub loop-preserved : goal.loop-preserved
loop-preserved c =
    rw c.in_ok-push.ensures.ok (many_goes_on entry_at c.loop.entries c.args.count c.loop.counter c.loop.rest.now c.in_ok-entry.entry c.in_ok-entry.after.now (many_at entry_at c.args.count c.args.bytes.now) c.loop-test.true c.in_ok-entry.ensures c.loop.invariant)

pub returns : goal.returns
returns c =
    many_done entry_at c.loop.entries c.args.count c.loop.counter c.loop.rest.now (many_at entry_at c.args.count c.args.bytes.now) c.loop-test.false c.loop.invariant
