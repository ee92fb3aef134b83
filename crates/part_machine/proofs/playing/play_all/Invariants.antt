use Rattle.std.proofs.Common.{take, drop}
use Rattle.part_machine.specs.Playing.{AreTaken, IsRun}
use Rattle.part_machine.proofs.playing.play_all.Given as goal

-- the entries so far were played, and the others may be
abbrev pub invariant-loop-placed : goal.invariant-loop-placed
invariant-loop-placed g l = record {
  run : IsRun g.S.KeyStore.meaning g.S.KeyStore.has_place l.fn.machine (take l.placed-index l.list) l.machine l.backs.items;
  taken : AreTaken l.machine.setting l.machine.next (drop l.placed-index l.list);
}
