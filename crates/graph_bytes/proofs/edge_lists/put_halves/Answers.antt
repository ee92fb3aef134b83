use Rattle.graph_model.specs.Edges.{edges_in}
use Rattle.graph_bytes.proofs.ListFormats.{are_few, halves_have}
use Rattle.graph_bytes.proofs.edge_lists.put_halves.Goals as goal

pub put_each_half-requires : goal.put_each_half-requires
put_each_half-requires c = rw c.as_slice.ensures.list (halves_have c.args.form c.args.list.now (are_few (edges_in c.args.list.now) c.len.ensures.edges).positive c.requires)
