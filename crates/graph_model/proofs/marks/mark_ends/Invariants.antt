-- with the edges that are left, all are marked
use Rattle.std.proofs.Common.{◌≡◌, true, drop, map}
use Rattle.std.specs.Prelude.{◌||◌}
use Rattle.maps.specs.Keys.{has_key}
use Rattle.graph_model.specs.declared.vid.Vid.{Vid}
use Rattle.graph_model.specs.Keys.{vid_cmp}
use Rattle.graph_model.specs.Marks.{has_mark, far_end, Grows}
use Rattle.graph_model.proofs.marks.mark_ends.Given as goal

abbrev pub invariant-loop-half : goal.invariant-loop-half
invariant-loop-half l = record {
  grows : Grows l.fn.marks.entries l.marks.entries;
  marked : (v : Vid) → has_key vid_cmp v (map (λ x. far_end l.inward x.0) l.list) ≡ true → (has_key vid_cmp v (map (λ x. far_end l.inward x.0) (drop l.half-index l.list)) || has_mark l.marks.entries v l.step) ≡ true;
}
