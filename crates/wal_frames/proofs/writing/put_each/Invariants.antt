use Rattle.std.proofs.Common.{◌≡◌, ◌++◌, take}
use Rattle.std.specs.List.{flat_map, AllByRecursion}
use Rattle.wal_frames.specs.Spelling.{entry, FitsEntry}
use Rattle.wal_frames.proofs.writing.put_each.Given as goal

-- so far the front of the list is written, and has a spelling
abbrev pub invariant-loop-made : goal.invariant-loop-made
invariant-loop-made l = record {
  written : l.out ≡ l.initial.out ++ flat_map entry (take l.made-index l.list);
  fit : AllByRecursion FitsEntry (take l.made-index l.list);
}
