use Rattle.std.proofs.Common.{refl}
use Rattle.graph_model.proofs.OpLemmas.{edges_put}
use Rattle.graph_model.proofs.op.Op.edges.Goals as goal

pub returns-in_ok-edges-in-PutEdges : goal.returns-in_ok-edges-in-PutEdges
returns-in_ok-edges-in-PutEdges c =
    let e = c.in_ok-edges-in-PutEdges.ensures in
    rw (c.in-PutEdges.is, edges_put, e, c.as_slice.ensures.list) refl
