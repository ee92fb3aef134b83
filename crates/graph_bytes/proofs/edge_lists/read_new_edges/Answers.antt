use Rattle.std.proofs.Common.{[]}
use Rattle.byte_fields.specs.declared.refused.ReadRefused.TheVariants as refusals
use Rattle.byte_fields.proofs.Loops.{each_goes_on, each_ends, each_done}
use Rattle.graph_bytes.specs.Reading.{grown, new_edge_at, new_edges_at}
use Rattle.graph_bytes.proofs.edge_lists.read_new_edges.Goals as goal

pub returns-in-Err : goal.returns-in-Err
returns-in-Err c =
    let is = rw c.as_slice.ensures at c.in-Err.ensures in
    each_ends grown (new_edge_at c.args.form) (refusals.Misfit c.in-Err.misfit) c.loop.list c.args.count c.loop.counter c.loop.list c.loop.rest.now (new_edges_at c.args.form c.args.count [] c.args.bytes.now) c.loop-test.true is c.loop.invariant

pub loop-preserved : goal.loop-preserved
loop-preserved c =
    let is = rw c.as_slice.ensures at c.in-Ok.ensures in
    rw c.in_ok-push.ensures.ok (each_goes_on grown (new_edge_at c.args.form) c.loop.list c.args.count c.loop.counter c.loop.list c.loop.rest.now c.in-Ok.found.0 c.in-Ok.found.1.now (new_edges_at c.args.form c.args.count [] c.args.bytes.now) c.loop-test.true is c.loop.invariant)

pub returns : goal.returns
returns c =
    each_done grown (new_edge_at c.args.form) c.loop.list c.args.count c.loop.counter c.loop.list c.loop.rest.now (new_edges_at c.args.form c.args.count [] c.args.bytes.now) c.loop-test.false c.loop.invariant
