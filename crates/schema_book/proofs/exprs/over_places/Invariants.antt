-- the places so far
use Rattle.std.proofs.Common.{◌≡◌, filter}
use Rattle.std.specs.List.{range_with_len}
use Rattle.schema_book.specs.Exprs.{is_over}
use Rattle.schema_book.proofs.exprs.over_places.Given as goal

abbrev pub invariant-loop-place : goal.invariant-loop-place
invariant-loop-place l = l.places ≡ filter (is_over l.types l.over) (range_with_len 0 l.place)
