use Rattle.std.proofs.Common.{◌≡◌, take}
use Rattle.std.specs.List.{filter_map}
use Rattle.part_store.specs.Reads.{tag_behind}
use Rattle.part_store.proofs.tags.tags_of.Given as goal

-- so far the tags of the front are there
abbrev pub invariant-loop-pair : goal.invariant-loop-pair
invariant-loop-pair l = l.tags ≡ filter_map (tag_behind l.front) (take l.pair-index l.pairs)
