use Rattle.std.proofs.Common.{◌≡◌, ◌++◌, take}
use Rattle.std.specs.List.{AllByRecursion}
use Rattle.part_store.specs.Keeps.{FitsOut}
use Rattle.part_store.specs.Writes.{out_writes}
use Rattle.part_store.proofs.list_writes.push_outs.Given as goal

-- so far the writes of the list's front are there, and it fits
abbrev pub invariant-loop-item : goal.invariant-loop-item
invariant-loop-item l = record {
  written : l.batch ≡ l.initial.batch ++ out_writes l.s (take l.item-index l.list);
  fit : AllByRecursion (FitsOut l.s) (take l.item-index l.list);
}
