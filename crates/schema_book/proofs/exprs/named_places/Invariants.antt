-- what is made, and what is left to make
use Rattle.std.proofs.Common.{◌≡◌, ◌++◌, drop}
use Rattle.schema_book.specs.Exprs.{named_places}
use Rattle.schema_book.proofs.exprs.named_places.Given as goal

abbrev pub invariant-loop-place : goal.invariant-loop-place
invariant-loop-place l = l.made ++ named_places l.types l.owner l.column (drop l.place-index l.places) ≡ named_places l.types l.owner l.column l.places
