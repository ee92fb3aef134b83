use Rattle.disk_model.proofs.TornPicks.{each_image}
use Rattle.disk_model.proofs.laws.each_image.Goals as goal

pub returns : goal.returns
returns c = each_image
