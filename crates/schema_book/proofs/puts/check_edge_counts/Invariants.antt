-- what is left tells
use Rattle.std.proofs.Common.{◌≡◌, drop}
use Rattle.schema_book.specs.Puts.{edge_counts}
use Rattle.schema_book.proofs.puts.check_edge_counts.Given as goal

abbrev pub invariant-loop-row : goal.invariant-loop-row
invariant-loop-row l = edge_counts l.names (drop l.row-index l.rows) ≡ edge_counts l.names l.rows
