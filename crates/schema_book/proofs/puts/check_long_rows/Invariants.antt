-- what is left tells
use Rattle.std.proofs.Common.{◌≡◌, drop}
use Rattle.schema_book.specs.Puts.{vertex_longs}
use Rattle.schema_book.proofs.puts.check_long_rows.Given as goal

abbrev pub invariant-loop-row : goal.invariant-loop-row
invariant-loop-row l = vertex_longs l.ids (drop l.row-index l.rows) ≡ vertex_longs l.ids l.rows
