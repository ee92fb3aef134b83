-- What an item of a log is to a part.
use Rattle.std.specs.Prelude.{ℕ, List, map, Option, None, Some}
use Rattle.raft_log.specs.declared.entry.Entry.{Entry}
use Rattle.raft_log.specs.declared.entry.Item.{Item}
use Rattle.raft_log.specs.declared.entry.Item.TheVariants.{NoOp, Members as MembersItem, Payload}
use Rattle.part_keys.specs.declared.entry.PartEntry.{PartEntry}
use Rattle.part_keys.specs.declared.proposal.Proposal.{Proposal}
use Rattle.part_keys.specs.Spelled.{Spelling}
use Rattle.part_keys.specs.declared.proposal.Proposal.TheVariants.{Start, Members, Made, Blank}

-- an entry that was read, or bytes that spell none
abbrev pub made_of : Option PartEntry → Proposal
made_of None = Blank
made_of (Some entry) = Made entry

-- what an item of the log is to the part
abbrev pub value_of : Spelling → Item → Proposal
value_of s NoOp = Start
value_of s (MembersItem config) = Members config
value_of s (Payload bytes) = made_of (s.read bytes)

-- an entry of the log, with its term
abbrev pub valued : Spelling → Entry → ℕ × Proposal
valued s entry = (entry.term, value_of s entry.item)

abbrev pub values_of : Spelling → List Entry → List (ℕ × Proposal)
values_of s log = map (valued s) log
