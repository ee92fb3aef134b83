-- what was found so far, and what will be found in the rest
use Rattle.std.proofs.Common.{◌≡◌, ◌++◌}
use Rattle.std.specs.List.{filter_map}
use Rattle.first_graph.specs.Views.{found_out}
use Rattle.first_graph.proofs.finding.push_out.Given as goal

abbrev pub invariant-loop-e : goal.invariant-loop-e
invariant-loop-e l = l.view ++ filter_map (found_out l.v l.types) l.e-iterator ≡ l.fn.view ++ filter_map (found_out l.v l.types) l.out.entries
