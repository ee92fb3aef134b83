use Rattle.std.proofs.lemmas.Result.{err_from_is_err_and}
use Rattle.byte_fields.specs.Reading.{many_at}
use Rattle.byte_fields.proofs.Loops.{many_goes_on, many_ends, many_done}
use Rattle.replica_file.specs.Grammar.{own_entry_at}
use Rattle.replica_file.proofs.reading.read_own_entries.Goals as goal

pub returns-in_err-entry : goal.returns-in_err-entry
returns-in_err-entry g c =
    let p = err_from_is_err_and c.from_residual.result c.from_residual.ensures.1 in
    rw (p.1, p.2) (many_ends (own_entry_at (g.P.Payloads.allowed c.args.payloads.now)) c.in_err-entry.field-0.0 c.loop.entries.items c.args.count c.loop.counter c.loop.rest.now (many_at (own_entry_at (g.P.Payloads.allowed c.args.payloads.now)) c.args.count c.args.bytes.now) c.loop-test.true c.in_err-entry.ensures c.loop.invariant)

pub loop-preserved : goal.loop-preserved
loop-preserved g c =
    rw c.in-Ok.ensures.items (many_goes_on (own_entry_at (g.P.Payloads.allowed c.args.payloads.now)) c.loop.entries.items c.args.count c.loop.counter c.loop.rest.now c.in_ok-entry.entry c.in_ok-entry.after.now (many_at (own_entry_at (g.P.Payloads.allowed c.args.payloads.now)) c.args.count c.args.bytes.now) c.loop-test.true c.in_ok-entry.ensures c.loop.invariant)

pub returns : goal.returns
returns g c =
    many_done (own_entry_at (g.P.Payloads.allowed c.args.payloads.now)) c.loop.entries.items c.args.count c.loop.counter c.loop.rest.now (many_at (own_entry_at (g.P.Payloads.allowed c.args.payloads.now)) c.args.count c.args.bytes.now) c.loop-test.false c.loop.invariant
