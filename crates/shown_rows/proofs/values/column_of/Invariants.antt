-- what is left tells
use Rattle.std.proofs.Common.{◌≡◌, drop}
use Rattle.std.specs.List.{find}
use Rattle.shown_rows.specs.Values.{is_column_of}
use Rattle.shown_rows.proofs.values.column_of.Given as goal

abbrev pub invariant-loop-at : goal.invariant-loop-at
invariant-loop-at l = find (is_column_of l.number) (drop l.at-index l.places) ≡ find (is_column_of l.number) l.places
