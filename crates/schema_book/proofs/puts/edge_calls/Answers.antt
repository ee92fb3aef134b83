use Rattle.std.proofs.Common.{◌≡◌, ◌≤◌, true, length, sym, subst, ap, arith}
use Rattle.graph_model.specs.Edges.{are_edges, edges_among}
use Rattle.schema_book.specs.Puts.{once, edge_rows}
use Rattle.schema_book.proofs.OnceLemmas.{rows_are_edges, rows_positive, rows_few, long_rows_map, long_among}
use Rattle.schema_book.proofs.puts.edge_calls.Goals as goal

pub new-requires : goal.new-requires
new-requires c =
    let names = c.args.words.now.columns in
    let rows = edge_rows c.args.place c.args.columns.now names c.args.words.now.rows in
    let few = rows_few c.args.words.now.rows c.requires.few in
    let short : length rows ≤ 64 = omega (arith, long_rows_map c.args.place c.args.columns.now names c.args.words.now.rows) in
    let some : 1 ≤ length (edges_among (once c.args.words.now.absent rows)) = omega (arith, long_among (once c.args.words.now.absent rows), ap length c.in_ok-kept.ensures) in
    subst (λ es. are_edges (edges_among es) ≡ true) (sym c.in_ok-kept.ensures)
    (rows_are_edges c.args.words.now.absent rows (rows_positive c.args.place c.args.columns.now names c.args.words.now.rows) short some)
