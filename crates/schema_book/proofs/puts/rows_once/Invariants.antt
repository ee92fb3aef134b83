-- what is kept, and what is left to join
use Rattle.std.proofs.Common.{◌≡◌, drop}
use Rattle.std.specs.List.{fold}
use Rattle.schema_book.specs.Puts.{joined, once, edge_rows}
use Rattle.schema_book.proofs.puts.rows_once.Given as goal

abbrev pub invariant-loop-row : goal.invariant-loop-row
invariant-loop-row l = fold (joined l.words.absent) l.kept.items (edge_rows l.place l.columns l.words.columns (drop l.row-index l.words.rows)) ≡ once l.words.absent (edge_rows l.place l.columns l.words.columns l.words.rows)
