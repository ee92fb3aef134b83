use Rattle.std.proofs.Common.{◌≡◌, ◌++◌, take}
use Rattle.part_store.specs.Writes.{standing_removals}
use Rattle.part_store.proofs.list_writes.push_no_chains.Given as goal

-- so far the writes of the list's front are there
abbrev pub invariant-loop-item : goal.invariant-loop-item
invariant-loop-item l = l.batch ≡ l.initial.batch ++ standing_removals l.s l.double (take l.item-index l.list)
