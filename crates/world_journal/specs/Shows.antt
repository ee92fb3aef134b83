-- When a journal's packets are those of a state of the world.
use Rattle.std.specs.Prelude.{◌≡◌, ℕ, ◌≤◌, ◌<◌, ◌+◌, ◌^◌, false, List, map, length, slice_get, Some}
use Rattle.replica_model.specs.declared.packet.Packet.{Packet}
use Rattle.world_mail.specs.declared.packets.Sent.{Sent}
use Rattle.world_mail.specs.Sent.{bytes_of}
use Rattle.world_model.specs.Journal.{Codec}
use Rattle.world_model.specs.Local.{packets_in}
use Rattle.world_model.specs.State.{State}
use Rattle.world_journal.specs.declared.journal.Journal.{Journal}

-- bytes that spell these packets, one after another
abbrev pub Spells : Codec → List (List ℕ) → List Packet → Type 0
Spells codec bytes packets = map codec.spell packets ≡ map Some bytes

-- The bytes spell what was sent, in order; and a packet is done exactly where a Deliver or a Lose of it stands, which none does
-- of one that wasn't sent.
pub record Shows (codec : Codec) (sent : List Sent) (s : State) : Type 0 where
  pub spelled : Spells codec (bytes_of sent) (packets_in s.posts)
  pub done : (k : ℕ) (one : Sent) → slice_get sent k ≡ Some one → s.done k ≡ one.done
  pub beyond : (k : ℕ) → length sent ≤ k → s.done k ≡ false

-- room for an event, and for so many packets of it
pub record HasRoom (j : Journal) (packets : ℕ) : Type 0 where
  pub event : 0 < j.events.1
  pub block : 0 < j.packets.1
  pub numbers : length j.packets.0 + packets < 2 ^ 64
