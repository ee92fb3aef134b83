use Rattle.std.proofs.Common.{rules, ◌≡◌, ◌<◌, ◌+◌, ◌-◌, ◌^◌, ℕ, List, IfOk, OnOk, ◌*◌, ◌≤◌, length, ◌/◌, ◌%◌, Bool, true, false, nat_eq, nat_lt, [], ◌∷◌, ◌++◌, slice_index_or, slice_set, bit_and, bit_or, Fits, w8, w32, w64, Bor, MutBor}
use Rattle.graph_bytes.specs.Fits.{IsSmall, HasSpellingHalf}
use Rattle.part_keys.specs.declared.entry.PartEntry.{PartEntry as Entry}
use Rattle.part_rules.specs.Part.{Part}
use Rattle.part_machine.specs.Machine.{IsMachine}
use Rattle.machine_tests.proofs.lines.step.Goals as goal

-- src/lines.rt:249:18
pub apply-answer-requires : goal.apply-answer-requires
apply-answer-requires c = (c.requires.shows.0, [], rw (← c.in_ok-list.ensures) (c.in_ok-reserve.ensures.ok c.requires.shows.0 c.requires.shows.1 c.requires.shows.2))

-- src/lines.rt:232:1
pub returns-clause-shows : goal.returns-clause-shows
returns-clause-shows c = (_, [], (c.apply-answer.ensures.shows c.requires.shows.0 [] (rw (← c.in_ok-list.ensures) (c.in_ok-reserve.ensures.ok c.requires.shows.0 c.requires.shows.1 c.requires.shows.2))).0)
