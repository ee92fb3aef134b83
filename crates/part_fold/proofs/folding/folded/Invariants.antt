use Rattle.std.proofs.Common.{◌≡◌, ◌+◌, drop}
use Rattle.part_rules.specs.Folded.{folded, folded_from}
use Rattle.part_fold.specs.State.{part_of}
use Rattle.part_fold.proofs.folding.folded.Given as goal

-- the items that are left, applied to the part so far
abbrev pub invariant-loop-i : goal.invariant-loop-i
invariant-loop-i l = folded_from l.parts (l.i + 1) (part_of l.part) (drop l.i l.decided) ≡ folded l.parts l.decided
