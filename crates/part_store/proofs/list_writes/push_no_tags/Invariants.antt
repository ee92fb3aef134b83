use Rattle.std.proofs.Common.{◌≡◌, ◌++◌, take}
use Rattle.std.specs.List.{AllByRecursion}
use Rattle.part_store.specs.Keeps.{FitsTag}
use Rattle.part_store.specs.Writes.{tag_removals}
use Rattle.part_store.proofs.list_writes.push_no_tags.Given as goal

-- so far the writes of the list's front are there, and it fits
abbrev pub invariant-loop-tag : goal.invariant-loop-tag
invariant-loop-tag l = record {
  written : l.batch ≡ l.initial.batch ++ tag_removals l.s l.v (take l.tag-index l.tags);
  fit : AllByRecursion (FitsTag l.s l.v) (take l.tag-index l.tags);
}
