use Rattle.std.proofs.Common.{◌≡◌, ◌++◌}
use Rattle.std.specs.List.{filter_map}
use Rattle.graph_model.specs.Views.{found_out}
use Rattle.part_fold.proofs.out_halves.push_all.Given as goal

-- what was found so far, and what will be found in the rest
abbrev pub invariant-loop-edge : goal.invariant-loop-edge
invariant-loop-edge l = l.view ++ filter_map (found_out l.v l.types) l.edge-iterator ≡ l.fn.view ++ filter_map (found_out l.v l.types) l.kept.entries
