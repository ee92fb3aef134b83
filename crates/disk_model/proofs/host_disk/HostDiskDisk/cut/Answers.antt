use Rattle.std.proofs.Common.{subst, sym}
use Rattle.disk_model.specs.Host.{HostLeft}
use Rattle.disk_model.specs.ReplayLaws.{cut_not}
use Rattle.disk_model.proofs.host_disk.HostDiskDisk.cut.Goals as goal

pub returns-in-File-clause-images : goal.returns-in-File-clause-images
returns-in-File-clause-images g c image now = (image, subst (λ d. HostLeft d image) (sym c.in-File.is) tt, cut_not c.args.len image)
