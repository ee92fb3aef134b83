-- What leaves, as the definition has it.
use Rattle.replica_model.specs.Stepped.{Leaving}
use Rattle.replica_state.specs.declared.leaving.Leaving.{Leaving as Packed}

abbrev pub leaving_of : Packed → Leaving
leaving_of l = record { packet = l.packet; round = l.round }
