-- Where a leader's letters go, and which entries give which.
use Rattle.std.specs.Prelude.{ℕ, suc, ◌==◌, ◌||◌, not, Bool, false, List, [], ◌∷◌, ◌++◌, Option, None, Some, if◌then◌else◌}
use Rattle.std.specs.List.{filter_map, list_any}
use Rattle.std.specs.FinMap.{contains_key}
use Rattle.part_keys.specs.declared.proposal.Proposal.{Proposal}
use Rattle.part_rules.specs.Part.{Part}
use Rattle.part_rules.specs.Folded.{item_applied}
use Rattle.chain_leader.specs.declared.body.ChainBody.{ChainBody}
use Rattle.chain_leader.specs.declared.body.ChainBody.TheVariants as says
use Rattle.chain_leader.specs.declared.letter.Letter.{Letter}
use Rattle.chain_leader.specs.declared.letter.Letter.TheVariants.{Tell, Cross, Back, Again}
use Rattle.chain_leader.specs.Rules.{Table}
use Rattle.chain_leader.specs.Leading.{Leading, Applies, on_item}
use Rattle.replica_model.specs.declared.packet.Place.{Place}
use Rattle.replica_model.specs.declared.packet.Place.TheVariants as place
use Rattle.replica_model.specs.declared.packet.To.{To}
use Rattle.replica_model.specs.declared.packet.To.TheVariants as to
use Rattle.replica_model.specs.declared.packet.Body.TheVariants as body
use Rattle.replica_model.specs.declared.packet.Packet.{Packet}
use Rattle.replica_model.specs.Replica.{Home}

-- back to a place
abbrev pub to_place : Place → To
to_place (place.Client c) = to.Client c
to_place (place.Peer p y) = to.Peer p y

-- to the peer of the hint, or where there is none to the one of that try
abbrev pub to_part : ℕ → ℕ → ℕ → To
to_part p tries hint = if hint == 0 then to.Part p tries else to.Peer p hint

abbrev pub packet_of : ℕ → ℕ → To → ChainBody → Packet
packet_of part me whom said = record { from = place.Peer part me; to = whom; body = body.Chain said }

-- the chain that a leader writes about, by a Remote or a Fence
abbrev pub chain_of : ChainBody → ℕ
chain_of (says.Remote term v list) = v
chain_of (says.Fence term v edges) = v
chain_of other = 0

abbrev pub back_to : ℕ → ℕ → Option Place → ChainBody → Option Packet
back_to part me None said = None
back_to part me (Some sender) said = Some (packet_of part me (to_place sender) said)

-- A letter as a packet: an answer goes to its client, a chain's letter to its part by the chain's hint or tries, what
-- answers a Remote or Fence to the sender that is kept, and a Resume to the leader itself.
abbrev pub addressed : ℕ → ℕ → ℕ → (ℕ → ℕ) → Option Place → Letter → Option Packet
addressed part me term hints sender (Tell id answer) = Some (packet_of part me (to.Client id.client) (says.Answer id.number answer))
addressed part me term hints sender (Cross q tries said) = Some (packet_of part me (to_part q tries (hints (chain_of said))) said)
addressed part me term hints sender (Back said) = back_to part me sender said
addressed part me term hints sender (Again after) = Some (packet_of part me (to.Peer part me) (says.Resume term after))

abbrev pub packets_of : ℕ → ℕ → ℕ → (ℕ → ℕ) → Option Place → List Letter → List Packet
packets_of part me term hints sender letters = filter_map (addressed part me term hints sender) letters

-- A hint is used up by the letter that it sends, and goes with its chain.
abbrev pub is_about : ℕ → Letter → Bool
is_about v (Cross q tries said) = chain_of said == v
is_about v other = false

abbrev pub used : (ℕ → ℕ) → Table → List Letter → ℕ → ℕ
used hints table letters v = if list_any (is_about v) letters || not (contains_key table v) then 0 else hints v

-- What a leader makes of entries that it applies, the first at an index: what it keeps behind them, the answers, each with
-- the sender of its entry, and what the rules send.
pub record Worked : Type 0 where
  pub leading : Leading
  pub answers : List Packet
  pub rules : List Letter

abbrev pub then_works : (List Letter → List Packet) → Applies → Worked → Worked
then_works address first rest = record { leading = rest.leading; answers = address first.answers ++ rest.answers; rules = first.rules ++ rest.rules }

abbrev pub works : Home → ℕ → ℕ → (ℕ → Option Place) → Part → Leading → ℕ → List (ℕ × Proposal) → Worked
works home me term senders machine l index [] = record { leading = l; answers = []; rules = [] }
works home me term senders machine l index (d ∷ entries) =
    then_works (packets_of home.part me term (λ v. 0) (senders index)) (on_item home.parts term machine l index d)
    (works home me term senders (item_applied home.parts index d.1 machine).0 (on_item home.parts term machine l index d).leading (suc index) entries)
