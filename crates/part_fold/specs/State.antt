-- A part in memory, as a state of the part.
use Rattle.part_rules.specs.Part.{Part}
use Rattle.part_fold.specs.declared.state.PartState.{PartState}

-- the state that it keeps
abbrev pub part_of : PartState → Part
part_of a = record { tags = a.tags; out = a.out; inn = a.inn; chains = a.chains; guards = a.guards; clients = a.clients }
