use Rattle.part_rules.proofs.Clients.{new_call}
use Rattle.part_rules.proofs.laws.new_once.Goals as goal

pub returns : goal.returns
returns c = new_call
