use Rattle.disk_model.proofs.TornPicks.{torn_none}
use Rattle.disk_model.proofs.laws.no_tear.Goals as goal

pub returns : goal.returns
returns c = torn_none
