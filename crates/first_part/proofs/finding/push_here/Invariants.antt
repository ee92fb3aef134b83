-- what was found so far, and what will be found in the rest
use Rattle.std.proofs.Common.{◌≡◌, ◌++◌}
use Rattle.std.specs.List.{filter_map}
use Rattle.first_part.specs.Part.{found_here}
use Rattle.first_part.proofs.finding.push_here.Given as goal

abbrev pub invariant-loop-key : goal.invariant-loop-key
invariant-loop-key l = l.view ++ filter_map (found_here l.v l.types) l.key-iterator ≡ l.fn.view ++ filter_map (found_here l.v l.types) l.inn.entries
