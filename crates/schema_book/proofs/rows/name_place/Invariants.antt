-- what is left tells
use Rattle.std.proofs.Common.{◌≡◌, drop}
use Rattle.std.specs.List.{position_from}
use Rattle.std.specs.Str.{bytes_eq}
use Rattle.schema_book.specs.Rows.{name_place}
use Rattle.schema_book.proofs.rows.name_place.Given as goal

abbrev pub invariant-loop-i : goal.invariant-loop-i
invariant-loop-i l = name_place l.names l.text ≡ position_from (λ n. bytes_eq l.text n.text) l.i (drop l.i l.names)
