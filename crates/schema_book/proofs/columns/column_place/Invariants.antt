use Rattle.std.proofs.Common.{◌≡◌, drop}
use Rattle.std.specs.List.{position_from}
use Rattle.std.specs.Str.{bytes_eq}
use Rattle.schema_book.specs.Columns.{column_place}
use Rattle.schema_book.proofs.columns.column_place.Given as goal

abbrev pub invariant-loop-i : goal.invariant-loop-i
invariant-loop-i l = column_place l.columns l.name ≡ position_from (λ c. bytes_eq l.name c.name) l.i (drop l.i l.columns)
