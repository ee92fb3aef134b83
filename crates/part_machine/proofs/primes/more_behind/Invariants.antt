use Rattle.std.proofs.Common.{◌≡◌, ◌≤◌, ◌+◌, length}
use Rattle.std.specs.List.{filter_map}
use Rattle.part_machine.proofs.Behind.{seen_at}
use Rattle.part_machine.proofs.primes.more_behind.Given as goal

-- as many so far as make all, with those of the places that are left
abbrev pub invariant-loop-v : goal.invariant-loop-v
invariant-loop-v l = record {
  so_far : l.count + length (filter_map (seen_at l.after) l.v-iterator) ≡ length (filter_map (seen_at l.after) l.places.entries);
  few : l.count ≤ 65;
}
