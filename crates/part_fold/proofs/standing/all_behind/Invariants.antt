use Rattle.std.proofs.Common.{◌≡◌, ◌++◌, map, filter}
use Rattle.part_fold.specs.Standing.{rec_of, is_behind}
use Rattle.part_fold.proofs.standing.all_behind.Given as goal

-- the chains so far, with those that are left
abbrev pub invariant-loop-v : goal.invariant-loop-v
invariant-loop-v l = l.made ++ map rec_of (filter (is_behind l.after) l.v-iterator) ≡ map rec_of (filter (is_behind l.after) l.kept.entries)
