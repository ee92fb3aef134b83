-- What an item writes, and what rules gave that send nothing.
use Rattle.std.specs.Prelude.{Bool, false, List, []}
use Rattle.part_keys.specs.declared.entry.PartEntry.{PartEntry}
use Rattle.part_keys.specs.declared.proposal.Proposal.{Proposal}
use Rattle.part_keys.specs.declared.proposal.Proposal.TheVariants.{Made}
use Rattle.part_rules.specs.Machine.{writes}
use Rattle.part_rules.specs.Part.{Part}
use Rattle.chain_leader.specs.Leading.{Leading, Taken}

-- whether an item writes at least one in-half
abbrev pub item_writes : Proposal → Part → Bool
item_writes (Made entry) p = writes entry p
item_writes other p = false

-- rules left a leader so and gave these entries to propose
abbrev pub gave : Leading → List PartEntry → Taken
gave leading proposals = record { leading = leading; proposals = proposals; letters = [] }
