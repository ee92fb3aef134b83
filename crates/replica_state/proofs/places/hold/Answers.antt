use Rattle.std.proofs.Common.{None, refl, sym, ap, ◌∙◌}
use Rattle.std.specs.Prelude.{◌||◌}
use Rattle.std.specs.Ordering.{nat_cmp, eq_by_cmp}
use Rattle.std.proofs.lemmas.Bool.{or_right}
use Rattle.maps.specs.Places.{has_place}
use Rattle.maps.proofs.Keys.{nat_keys, same_itself}
use Rattle.maps.proofs.Made.{held_by_order, held_empty_by_order, nothing_there}
use Rattle.replica_state.proofs.places.hold.Goals as goal

pub returns-clause-held : goal.returns-clause-held
returns-clause-held g c =
    held_by_order nat_keys nat_cmp refl c.args.places.now.entries c.insert.new.self.entries c.args.v None c.in_ok-insert.ensures.updates.0 c.args.v
    ∙ ap (λ b. b || has_place nat_cmp c.args.places.now.entries c.args.v) (same_itself nat_keys c.args.v)

pub returns-clause-kept : goal.returns-clause-kept
returns-clause-kept g c = λ q there.
    held_by_order nat_keys nat_cmp refl c.args.places.now.entries c.insert.new.self.entries c.args.v None c.in_ok-insert.ensures.updates.0 q
    ∙ or_right (eq_by_cmp nat_cmp q c.args.v) (has_place nat_cmp c.args.places.now.entries q) there

pub returns-clause-same : goal.returns-clause-same
returns-clause-same g c =
    held_empty_by_order nat_keys nat_cmp refl c.args.places.now.entries c.insert.new.self.entries c.args.v
    (nothing_there _ (sym c.contains_key.ensures ∙ c.if-contains_key.false)) c.in_ok-insert.ensures.updates.0
