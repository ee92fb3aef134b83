-- The faults that a script has set, and which packets they take.
use Rattle.std.specs.Prelude.{ℕ, ◌==◌, ◌&&◌, ◌||◌, not, Bool, true, false, Option, None, Some, if◌then◌else◌}
use Rattle.packet_codec.specs.Kinds.{number_of, body_kind}
use Rattle.replica_model.specs.declared.packet.Packet.{Packet}
use Rattle.replica_model.specs.declared.packet.Place.{Place}
use Rattle.replica_model.specs.declared.packet.Place.TheVariants as place
use Rattle.world_model.specs.State.{State, Standing, Up, Site, AtClient, AtPeer, Nowhere, resolve}

-- the cut links, between two nodes, and the kinds of packets that are lost, by their numbers
pub record Faults : Type 0 where
  pub cut : ℕ → ℕ → Bool
  pub lost : ℕ → Bool

abbrev pub no_faults : Faults
no_faults = record { cut = λ a b. false; lost = λ kind. false }

-- A link is cut in both directions; one from a node to itself isn't there.
abbrev pub is_link : ℕ → ℕ → ℕ → ℕ → Bool
is_link a b x y = not (a == b) && (((x == a) && (y == b)) || ((x == b) && (y == a)))

abbrev pub cutting : ℕ → ℕ → Faults → Faults
cutting a b f = record f { cut = λ x y. if is_link a b x y then true else f.cut x y }

abbrev pub healed : Faults → Faults
healed f = record f { cut = λ x y. false }

abbrev pub losing : ℕ → Faults → Faults
losing kind f = record f { lost = λ k. if k == kind then true else f.lost k }

abbrev pub keeping : Faults → Faults
keeping f = record f { lost = λ k. false }

-- the node of who sends a packet, and of who gets it; a client has none
abbrev pub node_from : State → Place → Option ℕ
node_from s (place.Client c) = None
node_from s (place.Peer p y) = Some (s.nodes p y)

abbrev pub node_at : State → Site → Option ℕ
node_at s (AtPeer p y) = Some (s.nodes p y)
node_at s other = None

abbrev pub crosses : Faults → Option ℕ → Option ℕ → Bool
crosses f (Some a) (Some b) = f.cut a b
crosses f (Some a) None = false
crosses f None b = false

-- A packet is taken whose kind is lost, or which goes over a cut link.
abbrev pub takes : Faults → State → Packet → Bool
takes f s packet = f.lost (number_of (body_kind packet.body)) || crosses f (node_from s packet.from) (node_at s (resolve s.table packet.to))

-- Its receiver is there: a client, or a replica that is up.
abbrev pub is_up : Standing → Bool
is_up (Up r) = true
is_up other = false

abbrev pub is_there : State → Site → Bool
is_there s (AtClient c) = true
is_there s (AtPeer p y) = is_up (s.placed p y)
is_there s Nowhere = false

abbrev pub reaches : State → Packet → Bool
reaches s packet = is_there s (resolve s.table packet.to)
