use Rattle.std.proofs.Common.{◌≡◌, ◌++◌, drop}
use Rattle.std.specs.List.{filter_map}
use Rattle.part_views.specs.Views.{in_shown}
use Rattle.part_views.proofs.pairs.push_ins.Given as goal

-- what was shown so far, and what the rest shows
abbrev pub invariant-loop-pair : goal.invariant-loop-pair
invariant-loop-pair l = l.view ++ filter_map (in_shown l.ids l.v l.types) (drop l.pair-index l.pairs) ≡ l.fn.view ++ filter_map (in_shown l.ids l.v l.types) l.pairs
