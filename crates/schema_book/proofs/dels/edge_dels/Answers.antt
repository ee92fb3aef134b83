use Rattle.std.proofs.Common.{◌≡◌, ◌≤◌, true, length, map, sym, subst, ap, arith}
use Rattle.graph_model.specs.Edges.{are_edges}
use Rattle.schema_book.specs.Ids.{edge_of}
use Rattle.schema_book.specs.Puts.{edges_once}
use Rattle.schema_book.proofs.OnceLemmas.{once_are_edges, edges_positive, ends_few, long_ends_map}
use Rattle.schema_book.proofs.dels.edge_dels.Goals as goal

pub new-requires : goal.new-requires
new-requires c =
    let edges = map (edge_of c.args.place) c.args.list.now in
    let few = ends_few c.args.list.now c.requires.few in
    let short : length edges ≤ 64 = omega (arith, long_ends_map c.args.place c.args.list.now) in
    let some : 1 ≤ length (edges_once edges) = omega (arith, ap length c.in_ok-kept.ensures) in
    subst (λ es. are_edges es ≡ true) (sym c.in_ok-kept.ensures) (once_are_edges edges (edges_positive c.args.place c.args.list.now) short some)
