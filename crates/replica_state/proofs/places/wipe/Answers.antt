use Rattle.maps.proofs.Keys.{nat_keys}
use Rattle.replica_state.proofs.Wiped.{wiped}
use Rattle.replica_state.proofs.places.wipe.Goals as goal

pub returns : goal.returns
returns g c = wiped nat_keys c.args.places.now.entries c.remove.new.self.entries c.args.v c.remove.ensures.updates.0
