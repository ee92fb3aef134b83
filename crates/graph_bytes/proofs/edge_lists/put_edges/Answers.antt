use Rattle.graph_bytes.proofs.ListFormats.{are_few, edges_have}
use Rattle.graph_bytes.proofs.edge_lists.put_edges.Goals as goal

pub put_each_edge-requires : goal.put_each_edge-requires
put_each_edge-requires c = rw c.as_slice.ensures.list (edges_have c.args.form c.args.list.now (are_few c.args.list.now c.len.ensures.edges).positive c.requires)
