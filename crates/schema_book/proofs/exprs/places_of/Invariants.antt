-- what is made, and what is left to make
use Rattle.std.proofs.Common.{◌≡◌, ◌++◌, drop}
use Rattle.schema_book.specs.Exprs.{places_of}
use Rattle.schema_book.proofs.exprs.places_of.Given as goal

abbrev pub invariant-loop-place : goal.invariant-loop-place
invariant-loop-place l = l.made ++ places_of l.types l.column (drop l.place-index l.places) ≡ places_of l.types l.column l.places
