-- the rows so far, and those of the reads that are left
use Rattle.std.proofs.Common.{◌≡◌, ◌++◌}
use Rattle.std.specs.Prelude.{flat_map}
use Rattle.std.specs.List.{zip}
use Rattle.shown_rows.specs.Rows.{read_rows}
use Rattle.shown_rows.proofs.shown.fetched_rows.Given as goal

abbrev pub invariant-loop-read : goal.invariant-loop-read
invariant-loop-read l = l.rows ++ flat_map (read_rows l.book.edges l.plan.shown) (zip l.read-iterator.a.rest.now l.read-iterator.b.rest.now) ≡ flat_map (read_rows l.book.edges l.plan.shown) (zip l.plan.reads l.views)
