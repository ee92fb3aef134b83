-- What a step gives has spellings.
use Rattle.std.specs.Prelude.{List}
use Rattle.std.specs.List.{AllByRecursion}
use Rattle.packet_codec.specs.Fits.{HasSpelling}
use Rattle.replica_state.specs.declared.leaving.Leaving.{Leaving}

-- each of these packets has a spelling
abbrev pub HaveSpellings : List Leaving → Type 0
HaveSpellings packets = AllByRecursion (λ (l : Leaving). HasSpelling l.packet) packets
