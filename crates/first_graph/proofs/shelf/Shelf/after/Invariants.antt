-- what was made so far, and the changes to come
use Rattle.std.proofs.Common.{◌≡◌, drop}
use Rattle.first_graph.specs.Contents.{nothing, after_all}
use Rattle.first_graph.proofs.shelf.Shelf.after.Given as goal

abbrev pub invariant-loop-change : goal.invariant-loop-change
invariant-loop-change l = after_all l.made (drop l.change-index l.changes) ≡ after_all nothing l.changes
