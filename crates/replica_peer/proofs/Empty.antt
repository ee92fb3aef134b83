-- What stands in no places.
use Rattle.std.proofs.Common.{◌≡◌, ℕ, []}
use Rattle.std.specs.Option.{unwrap_or}
use Rattle.std.specs.Ordering.{nat_cmp}
use Rattle.std.specs.FinMap.{get-empty}
use Rattle.replica_model.specs.Replica.{no_senders, no_hints}
use Rattle.replica_model.specs.declared.packet.Place.{Place}
use Rattle.replica_state.specs.Places.{held, number_held}

pub none_held : held {V = Place} [] ≡ no_senders
none_held = λ i v. get-empty {X = Place} nat_cmp v i

pub no_number : number_held [] ≡ no_hints
no_number = λ i v. unwrap_or (get-empty {X = ℕ} nat_cmp v i) 0
