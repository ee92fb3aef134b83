use Rattle.std.proofs.Common.{◌≡◌, take}
use Rattle.part_machine.proofs.undoing.copied_batch.Given as goal

-- the writes so far
abbrev pub invariant-loop-write : goal.invariant-loop-write
invariant-loop-write l = l.made ≡ take l.write-index l.write-items
