-- the tags of other vertices stay, and the tags grow fewer
use Rattle.std.proofs.Common.{◌≡◌, length}
use Rattle.std.specs.FinMap.{from_entries, retain_keys}
use Rattle.graph_model.specs.Keys.{tag_cmp}
use Rattle.graph_model.proofs.TagLemmas.{stays}
use Rattle.part_fold.proofs.tags.remove_tags.Given as goal

abbrev pub invariant-tags : goal.invariant-tags
invariant-tags l = retain_keys (from_entries {R = tag_cmp} l.verts.entries) (stays l.v) ≡ retain_keys (from_entries l.fn.verts.entries) (stays l.v)

abbrev pub decreases-tags : goal.decreases-tags
decreases-tags l = length l.verts.entries
