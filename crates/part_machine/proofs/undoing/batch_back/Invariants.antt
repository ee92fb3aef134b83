use Rattle.std.proofs.Common.{◌≡◌, take}
use Rattle.part_machine.specs.Undone.{backs}
use Rattle.part_machine.proofs.undoing.batch_back.Given as goal

-- those of the writes so far
abbrev pub invariant-loop-write : goal.invariant-loop-write
invariant-loop-write g l = l.made ≡ backs (g.S.KeyStore.meaning l.store) (take l.write-index l.write-items)
