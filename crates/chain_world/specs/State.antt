-- The state of a world of parts. Of each part there is its decided list and any number of leaders, of
-- different terms, at the same time. Nobody is a replica here: a leader never ends, and what it applies is the decided list.
use Rattle.std.specs.Prelude.{ℕ, ◌==◌, List, [], ◌++◌, take, Option, None, Some, ◌&&◌, if◌then◌else◌}
use Rattle.std.specs.List.{filter_map}
use Rattle.graph_model.specs.declared.call_id.CallId.{CallId}
use Rattle.graph_model.specs.declared.op.Op.{Op}
use Rattle.part_keys.specs.declared.proposal.Proposal.{Proposal}
use Rattle.part_rules.specs.Part.{Part}
use Rattle.part_rules.specs.Folded.{folded}
use Rattle.chain_leader.specs.declared.body.ChainBody.{ChainBody}
use Rattle.chain_leader.specs.declared.body.ChainBody.TheVariants as says
use Rattle.chain_leader.specs.declared.letter.Letter.{Letter}
use Rattle.chain_leader.specs.declared.letter.Letter.TheVariants.{Tell, Cross, Back, Again}
use Rattle.chain_leader.specs.Leading.{Leading}
use Rattle.chain_world.specs.declared.packet.ChainEnd.{ChainEnd}
use Rattle.chain_world.specs.declared.packet.ChainEnd.TheVariants as ends
use Rattle.chain_world.specs.declared.packet.ChainPacket.{ChainPacket}
use Rattle.chain_world.specs.Ledger.{Ledger, blank_ledger}

-- a packet that was sent; of the answer of a read, how many graph steps had been taken when it was read, of any other 0
pub record Post : Type 0 where
  pub packet : ChainPacket
  pub moment : ℕ

-- A leader: what its rules keep, how many decided entries it has applied, what it has proposed, in order, and the sender
-- of each Remote and Fence that it proposed, by the number of the proposal.
pub record Leader : Type 0 where
  pub lead : Leading
  pub applied : ℕ
  pub made : List Proposal
  pub senders : ℕ → Option ChainEnd

-- a client: the number of its last call, and the call that is open
pub record Client : Type 0 where
  pub last : ℕ
  pub asks : Option (CallId × Op)

-- The decided lists with the graph steps that they gave; of each part what was proposed at term 0, which has no leader; its
-- leaders, by term; all packets ever sent, of which nothing is taken out, because each may come again at any time; and the
-- clients.
pub record Chains : Type 0 where
  pub ledger : Ledger
  pub founded : ℕ → List Proposal
  pub leaders : ℕ → ℕ → Option Leader
  pub posts : List Post
  pub clients : ℕ → Client

abbrev pub start : Chains
start = record { ledger = blank_ledger; founded = λ p. []; leaders = λ p t. None; posts = []; clients = λ c. record { last = 0; asks = None } }

-- the decided list of a part, and the part behind its first n entries
abbrev pub decided_of : Chains → ℕ → List (ℕ × Proposal)
decided_of s p = s.ledger.decided p

abbrev pub machine_behind : ℕ → Chains → ℕ → ℕ → Part
machine_behind parts s p n = folded parts (take n (decided_of s p))

abbrev pub decided_machine : ℕ → Chains → ℕ → Part
decided_machine parts s p = folded parts (decided_of s p)

-- what the leader of a term has proposed, nothing where the term has none
abbrev pub made_by_leader : Option Leader → List Proposal
made_by_leader None = []
made_by_leader (Some l) = l.made

abbrev pub made_by : Chains → ℕ → ℕ → List Proposal
made_by s p t = if t == 0 then s.founded p else made_by_leader (s.leaders p t)

-- one leader's new state, one client's, and what was proposed first
abbrev pub with_leader : Chains → ℕ → ℕ → Leader → Chains
with_leader s p t l = record s { leaders = λ q u. if (q == p) && (u == t) then Some l else s.leaders q u }

abbrev pub with_client : Chains → ℕ → Client → Chains
with_client s c client = record s { clients = λ d. if d == c then client else s.clients d }

abbrev pub with_founded : Chains → ℕ → List Proposal → Chains
with_founded s p made = record s { founded = λ q. if q == p then made else s.founded q }

-- packets leave
abbrev pub packet_of : ChainEnd → ChainEnd → ChainBody → ChainPacket
packet_of from to b = record { from = from; to = to; body = b }

abbrev pub post_of : ChainPacket → Post
post_of packet = record { packet = packet; moment = 0 }

abbrev pub with_posts : Chains → List Post → Chains
with_posts s posts = record s { posts = s.posts ++ posts }

-- A leader's letters as packets: an answer goes to its client, a chain's letter to the part of its in-halves, what answers a
-- Remote or a Fence to the sender that is kept, where one is, and a Resume to the leader itself.
abbrev pub back_to : ChainEnd → Option ChainEnd → ChainBody → Option Post
back_to me None b = None
back_to me (Some sender) b = Some (post_of (packet_of me sender b))

abbrev pub addressed : ℕ → ℕ → Option ChainEnd → Letter → Option Post
addressed p t sender (Tell id answer) = Some (post_of (packet_of (ends.Leader p t) (ends.Client id.client) (says.Answer id.number answer)))
addressed p t sender (Cross q route b) = Some (post_of (packet_of (ends.Leader p t) (ends.Part q) b))
addressed p t sender (Back b) = back_to (ends.Leader p t) sender b
addressed p t sender (Again behind) = Some (post_of (packet_of (ends.Leader p t) (ends.Leader p t) (says.Resume t behind)))

abbrev pub posts_of : ℕ → ℕ → Option ChainEnd → List Letter → List Post
posts_of p t sender letters = filter_map (addressed p t sender) letters
