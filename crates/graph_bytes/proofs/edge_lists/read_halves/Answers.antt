use Rattle.std.proofs.Common.{arith}
use Rattle.graph_bytes.proofs.ListFormats.{halves_read}
use Rattle.graph_bytes.proofs.edge_lists.read_halves.Goals as goal

pub new-requires : goal.new-requires
new-requires c = halves_read c.args.form c.args.bytes.now c.in_ok-count.count c.in_ok-count.rest.now c.in_ok-list.list c.in_ok-list.rest.now (λ i. omega (arith, c.type_inv.bytes i)) c.in_ok-count.ensures.read c.in_ok-list.ensures
