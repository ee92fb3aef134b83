-- Chains in memory, as a world of parts.
use Rattle.std.specs.Prelude.{ℕ, List, [], map, Option, None, Some}
use Rattle.std.specs.FinMap.{FinMap, get}
use Rattle.std.specs.Option.{option_map, unwrap_or}
use Rattle.std.specs.Ordering.{nat_cmp}
use Rattle.chain_leader.specs.Leader.{leads}
use Rattle.chain_world.specs.State.{Post, Leader, Client, Chains as World}
use Rattle.chain_run.specs.declared.callers.Caller.{Caller}
use Rattle.chain_run.specs.declared.chains.Chains.{Chains}
use Rattle.chain_run.specs.declared.leaders.Seat.{Seat}
use Rattle.chain_run.specs.declared.leaders.Seated.{Seated}
use Rattle.chain_run.specs.declared.posts.ChainPost.{ChainPost}
use Rattle.chain_run.specs.Seats.{seat_cmp}

-- the list of a part, the empty one where it has none
abbrev pub list_in : {X : Type 0} → FinMap nat_cmp (List X) → ℕ → List X
list_in m p = unwrap_or (get m p) []

-- the packets that were sent, each with its moment
abbrev pub post_in : ChainPost → Post
post_in post = record { packet = post.packet; moment = post.moment }

abbrev pub posted : List ChainPost → List Post
posted posts = map post_in posts

-- a leader
abbrev pub leader_of : Seated → Leader
leader_of l = record { lead = leads l.lead; applied = l.applied; made = l.made; senders = get l.senders }

abbrev pub seat : ℕ → ℕ → Seat
seat p t = record { part = p; term = t }

abbrev pub leader_in : FinMap seat_cmp Seated → ℕ → ℕ → Option Leader
leader_in m p t = option_map leader_of (get m (seat p t))

-- a client
abbrev pub client_of : Option Caller → Client
client_of None = record { last = 0; asks = None }
client_of (Some caller) = record { last = caller.last; asks = caller.asks }

abbrev pub client_in : FinMap nat_cmp Caller → ℕ → Client
client_in m c = client_of (get m c)

-- the world that is kept
abbrev pub world_of : Chains → World
world_of c = record {
  ledger = record { steps = c.steps; decided = list_in c.decided };
  founded = list_in c.founded;
  leaders = leader_in c.leaders;
  posts = posted c.posts;
  clients = client_in c.callers;
}
