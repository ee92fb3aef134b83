-- what was found so far, and what will be found in the rest
use Rattle.std.proofs.Common.{◌≡◌, ◌++◌}
use Rattle.std.specs.List.{filter_map}
use Rattle.first_graph.specs.Views.{found_in}
use Rattle.first_graph.proofs.finding.push_in.Given as goal

abbrev pub invariant-loop-key : goal.invariant-loop-key
invariant-loop-key l = l.view ++ filter_map (found_in l.v l.types) l.key-iterator ≡ l.fn.view ++ filter_map (found_in l.v l.types) l.inn.entries
