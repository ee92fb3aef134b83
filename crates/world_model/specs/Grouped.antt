-- The replicas of a part and its group: what holds between the two. The group's facts are those of `raft_group`; nothing
-- here speaks of votes or commits.
use Rattle.std.specs.Prelude.{◌≡◌, ℕ, List, slice_get, Some, true, false}
use Rattle.raft_log.specs.declared.message.RaftMsg.{RaftMsg}
use Rattle.raft_log.specs.Majority.{is_among}
use Rattle.raft_core.specs.Core.{Core}
use Rattle.raft_core.specs.Durable.{reopened}
use Rattle.raft_group.specs.declared.event.GroupEvent.{GroupEvent}
use Rattle.raft_group.specs.declared.sent.Sent.{Sent}
use Rattle.raft_group.specs.Group.{Group, first_members, first_core, run}
use Rattle.raft_group.specs.Invariant.{IsFirst}
use Rattle.part_keys.specs.declared.proposal.Proposal.{Proposal}
use Rattle.replica_model.specs.declared.packet.Place.{Place}
use Rattle.replica_model.specs.declared.packet.Place.TheVariants as place
use Rattle.replica_model.specs.declared.packet.To.{To}
use Rattle.replica_model.specs.declared.packet.To.TheVariants as to
use Rattle.replica_model.specs.declared.packet.Body.{Body}
use Rattle.replica_model.specs.declared.packet.Body.TheVariants as body
use Rattle.replica_model.specs.declared.input.Input.{Input}
use Rattle.replica_model.specs.declared.input.Input.TheVariants as input
use Rattle.replica_model.specs.Spelling.{values_of}
use Rattle.world_model.specs.State.{Space, Standing, Vacant, Up, Stopped, Down, Gone, Post}

-- a space: each part's first configuration is one
abbrev pub IsSpace : Space → Type 0
IsSpace sp = (p : ℕ) → IsFirst (sp.first p)

-- the list has it, at some place
abbrev pub Has : {A : Type 0} → List A → A → Type 0
Has {A} xs x = (k : ℕ) × (slice_get xs k ≡ Some x)

abbrev pub message_from : ℕ → ℕ → RaftMsg → Sent
message_from a b message = record { from = a; to = b; message = message }

-- a packet of the group of part p, from its peer a, was sent there
abbrev pub IsSentFrom : (ℕ → Group) → ℕ → ℕ → To → RaftMsg → Type 0
IsSentFrom g p a (to.Peer q b) message = (q ≡ p) × Has (g p).sent (message_from a b message)
IsSentFrom g p a (to.Client c) message = ⊥
IsSentFrom g p a (to.Part q tries) message = ⊥

abbrev pub IsSent : (ℕ → Group) → Place → To → RaftMsg → Type 0
IsSent g (place.Peer p a) whom message = IsSentFrom g p a whom message
IsSent g (place.Client c) whom message = ⊥

abbrev pub IsCarried : (ℕ → Group) → Place → To → Body → Type 0
IsCarried g from whom (body.Raft message) = IsSent g from whom message
IsCarried g from whom (body.Chain said) = Unit {0}

-- a message that comes to a peer of its group was sent to it
abbrev pub IsComing : Group → ℕ → ℕ → Place → Body → Type 0
IsComing g p y from (body.Raft message) = (a : ℕ) → from ≡ place.Peer p a → Has g.sent (message_from a y message)
IsComing g p y from (body.Chain said) = Unit {0}

abbrev pub IsInput : Group → ℕ → ℕ → Input → Type 0
IsInput g p y (input.Sent packet) = IsComing g p y packet.from packet.body
IsInput g p y (input.Tick tick) = Unit {0}

-- the peer is in its group, in this state
pub record IsHere (g : Group) (y : ℕ) (core : Core) : Type 0 where
  pub core_is : g.core y ≡ core
  pub member : is_among y g.members ≡ true

-- a peer that wasn't created yet: one of the first configuration stands in its group as it began; any other isn't there
pub record IsVacant (sp : Space) (p : ℕ) (g : Group) (y : ℕ) : Type 0 where
  pub core_is : g.core y ≡ first_core (sp.first p) y
  pub member : is_among y (first_members (sp.first p)) ≡ true → is_among y g.members ≡ true
  pub new : is_among y (first_members (sp.first p)) ≡ false → is_among y g.placed ≡ false

-- A replica that is up is the peer that the group has; one that stopped inside a step is the peer before that step; one
-- that is down is what a crash leaves.
abbrev pub PeerAs : Space → Group → ℕ → ℕ → Standing → Type 0
PeerAs sp g p y Vacant = IsVacant sp p g y
PeerAs sp g p y (Up r) = IsHere g y r.core
PeerAs sp g p y (Stopped r i) = IsHere g y r.core × IsInput g p y i
PeerAs sp g p y (Down d) = IsHere g y (reopened y d)
PeerAs sp g p y Gone = Unit {0}

-- With the replicas, the packets and the decided lists goes a group of each part.
pub record Grouped (sp : Space) (placed : ℕ → ℕ → Standing) (posts : List Post) (decided : ℕ → List (ℕ × Proposal)) (g : ℕ → Group) : Type 0 where
  pub reached : (p : ℕ) → (events : List GroupEvent) × (run (sp.first p) events ≡ g p)
  pub peers : (p y : ℕ) → PeerAs sp (g p) p y (placed p y)
  pub letters : (k : ℕ) (post : Post) → slice_get posts k ≡ Some post → IsCarried g post.packet.from post.packet.to post.packet.body
  pub lists : (p : ℕ) → decided p ≡ values_of sp.spelling (g p).decided
