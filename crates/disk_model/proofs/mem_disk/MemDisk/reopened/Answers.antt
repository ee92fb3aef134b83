use Rattle.std.proofs.Common.{subst, sym}
use Rattle.disk_model.specs.Memory.{LeftOf}
use Rattle.disk_model.proofs.TornPicks.{picked_is_left}
use Rattle.disk_model.proofs.mem_disk.MemDisk.reopened.Goals as goal

pub returns-clause-image : goal.returns-clause-image
returns-clause-image c = subst (LeftOf c.args.self) (sym c.in-Ok.ensures) (picked_is_left c.args.pick.now c.args.self)
