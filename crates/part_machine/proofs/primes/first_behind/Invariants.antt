use Rattle.std.proofs.Common.{◌≡◌, ◌≤◌, ◌++◌, length}
use Rattle.std.specs.List.{filter_map}
use Rattle.part_machine.proofs.Behind.{seen_at}
use Rattle.part_machine.proofs.primes.first_behind.Given as goal

-- the chains so far, with those of the places that are left
abbrev pub invariant-loop-v : goal.invariant-loop-v
invariant-loop-v l = record {
  so_far : l.made ++ filter_map (seen_at l.after) l.v-iterator ≡ filter_map (seen_at l.after) l.places.entries;
  few : length l.made ≤ 64;
}
