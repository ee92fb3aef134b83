use Rattle.world_model.proofs.Local as local
use Rattle.world_model.proofs.laws.events_are_local.Goals as goal

pub returns : goal.returns
returns c = record { others_stay = local.apart; sends = local.sends_its_own; stays_lawful = local.stays_lawful; others_between = local.others_come_between }
