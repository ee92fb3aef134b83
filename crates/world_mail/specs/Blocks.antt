-- The packets, a block an event that sent some.
use Rattle.std.specs.Prelude.{◌≡◌, ℕ, ◌+◌, List, [], ◌∷◌, ◌++◌, length}
use Rattle.world_mail.specs.declared.block.Block.{Block}
use Rattle.world_mail.specs.declared.packets.Sent.{Sent}
use Rattle.world_mail.specs.Sent.{front_of}

-- all packets, by number
abbrev pub sent_in : List Block → List Sent
sent_in [] = []
sent_in (b ∷ blocks) = b.sent.items ++ sent_in blocks

-- each block has the number of its first packet: the numbers go on from block to block
abbrev pub AreNumbered : ℕ → List Block → Type 0
AreNumbered k [] = Unit {0}
AreNumbered k (b ∷ blocks) = (b.first ≡ k) × AreNumbered (k + length b.sent.items) blocks

-- the blocks, how many packets they have, and how many at the front were delivered or lost
pub record AreKept (blocks : List Block) (count done : ℕ) : Type 0 where
  pub numbered : AreNumbered 0 blocks
  pub len : count ≡ length (sent_in blocks)
  pub front : done ≡ front_of (sent_in blocks)
