-- the numbers so far
use Rattle.std.proofs.Common.{◌≡◌, filter}
use Rattle.std.specs.List.{range_with_len}
use Rattle.schema_book.specs.Exprs.{is_over}
use Rattle.schema_book.proofs.OverLemmas.{numbers}
use Rattle.schema_book.proofs.exprs.types_of.Given as goal

abbrev pub invariant-loop-place : goal.invariant-loop-place
invariant-loop-place l = l.numbers.items ≡ numbers (filter (is_over l.types l.over) (range_with_len 0 l.place))
