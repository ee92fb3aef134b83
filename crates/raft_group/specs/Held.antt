-- A group as the program keeps it, and of which group it is the state.
use Rattle.std.specs.FinMap.{FinMap, get}
use Rattle.std.specs.List.{AllByRecursion}
use Rattle.std.specs.Option.{is_some}
use Rattle.std.specs.Ordering.{nat_cmp}
use Rattle.std.specs.Prelude.{◌≡◌, ℕ, List, [], ◌∷◌, Option, None, Some, Bool, true, false, if◌then◌else◌}
use Rattle.raft_log.specs.declared.config.Config.{Config}
use Rattle.raft_log.specs.declared.entry.Entry.{Entry}
use Rattle.raft_log.specs.Majority.{is_among}
use Rattle.raft_core.specs.declared.input.RaftInput.{RaftInput}
use Rattle.raft_core.specs.Ahead.{IsInput, IsMessage}
use Rattle.raft_core.specs.Core.{Core, opened}
use Rattle.raft_core.specs.Durable.{crashed}
use Rattle.raft_core.specs.Peer.{core_of}
use Rattle.raft_core.specs.Rounds.{confirmed_of}
use Rattle.raft_core.specs.Step.{stepped}
use Rattle.raft_group.specs.declared.group.Group as program
use Rattle.raft_group.specs.declared.placed.PlacedPeer.{PlacedPeer}
use Rattle.raft_group.specs.declared.sent.Sent.{Sent}
use Rattle.raft_group.specs.Group.{Group, blank, first_entry}

-- the peers that were ever placed, by their ids
abbrev pub Peers : Type 0
Peers = FinMap nat_cmp PlacedPeer

-- whether that is a member, and the state that it has; who was never placed is no member, and blank
abbrev pub is_member_at : Option PlacedPeer → Bool
is_member_at None = false
is_member_at (Some peer) = peer.is_member

abbrev pub core_at : ℕ → Option PlacedPeer → Core
core_at id None = blank id
core_at id (Some peer) = core_of peer.core

-- the map tells who is a member, who was ever placed, and the state of each
pub record HoldsPeers (peers : Peers) (members placed : List ℕ) (core : ℕ → Core) : Type 0 where
  pub belong : (id : ℕ) → is_among id members ≡ is_member_at (get peers id)
  pub stand : (id : ℕ) → is_among id placed ≡ is_some (get peers id)
  pub are : (id : ℕ) → core id ≡ core_at id (get peers id)

-- What the program keeps is what the group has of peers, messages and decided entries. Leaderships and rounds are
-- history, which no step reads.
pub record Holds (held : program.Group) (g : Group) : Type 0 where
  pub peers : HoldsPeers held.peers g.members g.placed g.core
  pub sent : held.sent ≡ g.sent
  pub decided : held.decided ≡ g.decided

-- each message that was sent may be taken
abbrev pub AreSent : List Sent → Type 0
AreSent sent = AllByRecursion (λ (s : Sent). IsMessage s.message) sent

-- an input, where there is one, may be taken
abbrev pub MayBeTaken : Option RaftInput → Type 0
MayBeTaken None = Unit {0}
MayBeTaken (Some input) = IsInput input

-- these peers of the first configuration are placed, and no other
abbrev pub first_among : Config → List ℕ → ℕ → Core
first_among first ids id = if is_among id ids then opened id 0 0 (first_entry first ∷ []) else blank id

abbrev pub AreFounded : Config → List ℕ → Peers → Type 0
AreFounded first ids peers = HoldsPeers peers ids ids (first_among first ids)

-- what a peer is behind a step that a crash stops, with its record or without
abbrev pub stopped_by : Core → RaftInput → Bool → Core
stopped_by core input true = crashed (stepped core input).core
stopped_by core input false = crashed core

-- the log of a member, none of another peer
abbrev pub log_of : Group → ℕ → Option (List Entry)
log_of g peer = if is_among peer g.members then Some (g.core peer).log else None

-- the greatest round of a leader that a majority of its voters has confirmed, 0 of who doesn't lead or is no member
abbrev pub confirmed_in : Group → ℕ → ℕ
confirmed_in g peer = if is_among peer g.members then confirmed_of (g.core peer) else 0
