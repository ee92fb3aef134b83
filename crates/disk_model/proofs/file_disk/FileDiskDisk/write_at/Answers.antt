use Rattle.std.proofs.Common.{length}
use Rattle.disk_model.specs.ReplayLaws.{torn_not}
use Rattle.disk_model.proofs.file_disk.FileDiskDisk.write_at.Goals as goal

pub returns-in-Ok-clause-images : goal.returns-in-Ok-clause-images
returns-in-Ok-clause-images g c image now = (image, tt, torn_not c.args.at (length c.args.from.now) image)

pub returns-in-Err-clause-images : goal.returns-in-Err-clause-images
returns-in-Err-clause-images g c image now = (image, tt, torn_not c.args.at (length c.args.from.now) image)
