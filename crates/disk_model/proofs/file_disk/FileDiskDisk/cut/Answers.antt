use Rattle.disk_model.specs.ReplayLaws.{cut_not}
use Rattle.disk_model.proofs.file_disk.FileDiskDisk.cut.Goals as goal

pub returns-in-Ok-clause-images : goal.returns-in-Ok-clause-images
returns-in-Ok-clause-images g c image now = (image, tt, cut_not c.args.len image)

pub returns-in-Err-clause-images : goal.returns-in-Err-clause-images
returns-in-Err-clause-images g c image now = (image, tt, cut_not c.args.len image)
