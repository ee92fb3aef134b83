-- what is left tells
use Rattle.std.proofs.Common.{◌≡◌, drop}
use Rattle.schema_book.specs.Puts.{vertex_values}
use Rattle.schema_book.proofs.puts.check_vertex_rows.Given as goal

abbrev pub invariant-loop-row : goal.invariant-loop-row
invariant-loop-row l = vertex_values l.ids l.columns l.names (drop l.row-index l.rows) ≡ vertex_values l.ids l.columns l.names l.rows
