use Rattle.std.proofs.Common.{◌≡◌, ◌++◌, take}
use Rattle.std.specs.List.{AllByRecursion}
use Rattle.part_store.specs.Keeps.{FitsInto}
use Rattle.part_store.specs.Writes.{in_writes}
use Rattle.part_store.proofs.list_writes.push_ins.Given as goal

-- so far the writes of the list's front are there, and it fits
abbrev pub invariant-loop-item : goal.invariant-loop-item
invariant-loop-item l = record {
  written : l.batch ≡ l.initial.batch ++ in_writes l.s l.v (take l.item-index l.list);
  fit : AllByRecursion (FitsInto l.s) (take l.item-index l.list);
}
