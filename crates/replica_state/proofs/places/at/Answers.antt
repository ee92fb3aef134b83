use Rattle.std.proofs.Common.{refl, None}
use Rattle.std.specs.Ordering.{nat_cmp}
use Rattle.maps.proofs.Keys.{nat_keys}
use Rattle.maps.proofs.Made.{get_placed_order}
use Rattle.replica_state.proofs.places.at.Goals as goal

pub returns-in_default : goal.returns-in_default
returns-in_default g c = get_placed_order nat_keys nat_cmp refl c.args.places.now.entries c.args.v None c.in_default.ensures.value

pub returns : goal.returns
returns g c =
    let read = get_placed_order nat_keys nat_cmp refl c.args.places.now.entries c.args.v _ c.in-Some.ensures.value in
    cc
