-- what is left tells
use Rattle.std.proofs.Common.{◌≡◌, drop}
use Rattle.std.specs.List.{find}
use Rattle.schema_book.specs.Exprs.{is_at}
use Rattle.schema_book.proofs.exprs.find_named.Given as goal

abbrev pub invariant-loop-place : goal.invariant-loop-place
invariant-loop-place l = find (is_at l.types l.name) (drop l.place-index l.places) ≡ find (is_at l.types l.name) l.places
