-- What the entries of a log spell.
use Rattle.part_keys.specs.Fits.{Fits}
use Rattle.part_keys.specs.Spelling.{form_of}
use Rattle.part_keys.specs.declared.proposal.Proposal.{Proposal}
use Rattle.part_keys.specs.declared.proposal.Proposal.TheVariants.{Made}
use Rattle.replica_state.specs.State.{version}

-- an entry that was read fits its spelling
abbrev pub IsWritten : Proposal → Type 0
IsWritten (Made entry) = Fits (form_of version) entry
IsWritten other = Unit {0}
