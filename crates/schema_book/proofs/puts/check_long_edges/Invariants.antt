-- what is left tells
use Rattle.std.proofs.Common.{◌≡◌, drop}
use Rattle.schema_book.specs.Puts.{edge_longs}
use Rattle.schema_book.proofs.puts.check_long_edges.Given as goal

abbrev pub invariant-loop-row : goal.invariant-loop-row
invariant-loop-row l = edge_longs l.ids (drop l.row-index l.rows) ≡ edge_longs l.ids l.rows
