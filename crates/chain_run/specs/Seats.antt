-- The order of leaders: by part, then by term.
use Rattle.std.specs.declared.cmp.Ordering.{Ordering}
use Rattle.std.specs.Ordering.{nat_cmp, ordering_then}
use Rattle.chain_run.specs.declared.leaders.Seat.{Seat}

abbrev pub seat_cmp : Seat → Seat → Ordering
seat_cmp a b = ordering_then (nat_cmp a.part b.part) (nat_cmp a.term b.term)
