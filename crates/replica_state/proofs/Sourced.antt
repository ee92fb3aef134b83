-- A Remote or a Fence that may be heard names its part.
use Rattle.std.proofs.Common.{◌≡◌, true}
use Rattle.chain_leader.specs.declared.body.ChainBody.{ChainBody}
use Rattle.chain_leader.specs.declared.body.ChainBody.TheVariants as says
use Rattle.replica_model.specs.Asks.{is_sender, part_from}
use Rattle.replica_model.specs.declared.packet.Place.{Place}
use Rattle.replica_model.specs.declared.packet.Place.TheVariants as place
use Rattle.replica_state.specs.State.{IsHeardPlace, IsSourced}

pub sourced : (said : ChainBody) (from : Place) → is_sender said from ≡ true → IsHeardPlace from → IsSourced said (part_from from)
sourced (says.Remote term v list) (place.Client c) sends heard = absurd cc
sourced (says.Remote term v list) (place.Peer q y) sends heard = heard
sourced (says.Fence term v edges) (place.Client c) sends heard = absurd cc
sourced (says.Fence term v edges) (place.Peer q y) sends heard = heard
sourced other from sends heard = tt
