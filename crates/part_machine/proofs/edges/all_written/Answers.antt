use Rattle.std.proofs.Common.{◌+◌, drop}
use Rattle.part_machine.proofs.EdgeSteps.{next_of, stop_written, go_written}
use Rattle.part_machine.proofs.edges.all_written.Goals as goal

pub returns-then-number_at-v : goal.returns-then-number_at-v
returns-then-number_at-v g c = λ p keeps.
    stop_written c.args.s p (g.S.KeyStore.meaning c.args.store.now) keeps c.args.v c.edge-item.result (drop c.loop-edge.edge-index c.args.edges.now) (drop (c.loop-edge.edge-index + 1) c.args.edges.now) c.args.edges.now
    c.number_at.result (next_of c.args.edges.now c.loop-edge.edge-index c.edge-item.result c.loop-edge-test.true c.edge-item.is) c.number_at.ensures.is c.if-number_at-v.true c.number_at.ensures.fits (c.loop-edge.invariant p keeps)

pub loop-edge-preserved : goal.loop-edge-preserved
loop-edge-preserved g c = λ p keeps.
    go_written c.args.s p (g.S.KeyStore.meaning c.args.store.now) keeps c.args.v c.edge-item.result (drop c.loop-edge.edge-index c.args.edges.now) (drop (c.loop-edge.edge-index + 1) c.args.edges.now) c.args.edges.now
    c.number_at.result (next_of c.args.edges.now c.loop-edge.edge-index c.edge-item.result c.loop-edge-test.true c.edge-item.is) c.number_at.ensures.is c.if-number_at-v.false c.number_at.ensures.fits (c.loop-edge.invariant p keeps)
