use Rattle.std.proofs.Common.{◌≡◌, drop, List}
use Rattle.graph_model.specs.declared.found.Found.{Found}
use Rattle.graph_model.specs.declared.vid.Vid.{Vid}
use Rattle.traversal.specs.Sets.{with_all, without_all, ends_in}
use Rattle.traversal.proofs.ends.Ends.add_ends.Given as goal

pub record SoFar (old set fresh : List Vid) (view left : List Found) : Type 0 where
  pub same : with_all set (ends_in left) ≡ with_all old (ends_in view)
  pub undone : without_all fresh set ≡ old

abbrev pub invariant-loop-found : goal.invariant-loop-found
invariant-loop-found l = SoFar l.fn.self l.self l.fresh.items l.view (drop l.found-index l.view)
