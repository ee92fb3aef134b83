-- The state of a part behind a decided list.
use Rattle.std.specs.Prelude.{ℕ, suc, List, [], ◌∷◌}
use Rattle.part_keys.specs.declared.proposal.Proposal.{Proposal}
use Rattle.part_keys.specs.declared.proposal.Proposal.TheVariants.{Made}
use Rattle.part_rules.specs.declared.applied.Applied.{Applied}
use Rattle.part_rules.specs.declared.applied.Applied.TheVariants.{Nothing}
use Rattle.part_rules.specs.Part.{Part, blank}
use Rattle.part_rules.specs.Machine.{applied}

-- what an item of the log leaves, and its answer: an entry by the table; any other item changes nothing
abbrev pub item_applied : ℕ → ℕ → Proposal → Part → Part × Applied
item_applied parts index (Made entry) p = applied parts index entry p
item_applied parts index other p = (p, Nothing)

-- the items of a list, each with its term, applied in order, the first at that index
abbrev pub folded_from : ℕ → ℕ → Part → List (ℕ × Proposal) → Part
folded_from parts index p [] = p
folded_from parts index p (d ∷ decided) = folded_from parts (suc index) (item_applied parts index d.1 p).0 decided

-- the part behind a decided list, whose first item has index 1
abbrev pub folded : ℕ → List (ℕ × Proposal) → Part
folded parts decided = folded_from parts 1 blank decided
