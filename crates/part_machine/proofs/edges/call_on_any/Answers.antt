use Rattle.std.proofs.Common.{◌+◌, drop}
use Rattle.part_machine.proofs.EdgeReads.{skip_edge, stop_edge}
use Rattle.part_machine.proofs.EdgeSteps.{next_of}
use Rattle.part_machine.proofs.edges.call_on_any.Goals as goal

pub returns-in-Some-clause-call : goal.returns-in-Some-clause-call
returns-in-Some-clause-call g c = λ p keeps.
    stop_edge c.args.s p (g.S.KeyStore.meaning c.args.store.now) keeps c.half-item.result (drop c.loop-half.half-index c.args.list.now) (drop (c.loop-half.half-index + 1) c.args.list.now) c.args.list.now
    _ c.in-Some.id (next_of c.args.list.now c.loop-half.half-index c.half-item.result c.loop-half-test.true c.half-item.is) c.in-Some.ensures.is c.chain_at.ensures.fits (c.loop-half.invariant p keeps)

pub loop-half-preserved : goal.loop-half-preserved
loop-half-preserved g c = λ p keeps.
    skip_edge c.args.s p (g.S.KeyStore.meaning c.args.store.now) keeps c.half-item.result (drop c.loop-half.half-index c.args.list.now) (drop (c.loop-half.half-index + 1) c.args.list.now) c.args.list.now
    (next_of c.args.list.now c.loop-half.half-index c.half-item.result c.loop-half-test.true c.half-item.is) c.in_default.ensures.is c.chain_at.ensures.fits (c.loop-half.invariant p keeps)
