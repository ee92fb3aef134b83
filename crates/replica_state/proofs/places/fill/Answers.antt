use Rattle.std.proofs.Common.{refl, ◌∙◌}
use Rattle.std.specs.Ordering.{nat_cmp, eq_by_cmp}
use Rattle.std.proofs.lemmas.Bool.{or_right}
use Rattle.maps.specs.Places.{has_place}
use Rattle.maps.proofs.Keys.{nat_keys}
use Rattle.maps.proofs.Made.{held_by_order, placed_by_order}
use Rattle.replica_state.proofs.places.fill.Goals as goal

pub returns-clause-kept : goal.returns-clause-kept
returns-clause-kept g c = λ q there.
    held_by_order nat_keys nat_cmp refl c.args.places.now.entries c.insert.new.self.entries c.args.v c.args.value c.in-Ok.ensures.updates.0 q
    ∙ or_right (eq_by_cmp nat_cmp q c.args.v) (has_place nat_cmp c.args.places.now.entries q) there

pub returns-clause-filled : goal.returns-clause-filled
returns-clause-filled g c = placed_by_order nat_keys nat_cmp refl c.args.places.now.entries c.insert.new.self.entries c.args.v c.args.value c.in-Ok.ensures.updates.0
