use Rattle.std.proofs.Common.{◌≡◌}
use Rattle.part_rules.specs.Part.{chain_among}
use Rattle.part_fold.proofs.standing.first_on.Given as goal

-- what is left tells
abbrev pub invariant-loop-v : goal.invariant-loop-v
invariant-loop-v l = chain_among l.v-iterator l.edge ≡ chain_among l.kept.entries l.edge
