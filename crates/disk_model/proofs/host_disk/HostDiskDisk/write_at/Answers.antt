use Rattle.std.proofs.Common.{subst, sym, length}
use Rattle.disk_model.specs.Host.{HostLeft}
use Rattle.disk_model.specs.ReplayLaws.{torn_not}
use Rattle.disk_model.proofs.host_disk.HostDiskDisk.write_at.Goals as goal

pub returns-in-File-clause-images : goal.returns-in-File-clause-images
returns-in-File-clause-images g c image now = (image, subst (λ d. HostLeft d image) (sym c.in-File.is) tt, torn_not c.args.at (length c.args.from.now) image)
