use Rattle.std.proofs.Common.{◌≡◌, ◌++◌}
use Rattle.std.specs.List.{filter_map}
use Rattle.part_fold.specs.Shown.{found_of}
use Rattle.part_fold.proofs.in_halves.push_all.Given as goal

-- what was found so far, and what will be found in the rest
abbrev pub invariant-loop-key : goal.invariant-loop-key
invariant-loop-key l = l.view ++ filter_map (found_of l.v l.types) l.key-iterator ≡ l.fn.view ++ filter_map (found_of l.v l.types) l.kept.entries
