use Rattle.part_rules.proofs.Clients.{entry_up, rising}
use Rattle.part_rules.proofs.laws.numbers_of_clients_rise.Goals as goal

pub returns : goal.returns
returns c = record { entry = entry_up; list = rising }
