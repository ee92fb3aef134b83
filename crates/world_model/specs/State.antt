-- The state of the replicated world.
use Rattle.std.specs.Prelude.{ℕ, zero, suc, ◌==◌, ◌&&◌, Bool, false, List, [], length, Option, None, Some, if◌then◌else◌}
use Rattle.raft_log.specs.declared.config.Config.{Config}
use Rattle.raft_core.specs.Durable.{Durable}
use Rattle.part_keys.specs.declared.vid_kind.VidKind.{VidKind}
use Rattle.chain_world.specs.Ledger.{Ledger, blank_ledger}
use Rattle.meta_parts.specs.declared.table.PartTable.{PartTable}
use Rattle.meta_parts.specs.Table.{boot, tried, parts_in, first_in}
use Rattle.replica_model.specs.declared.packet.Packet.{Packet}
use Rattle.replica_model.specs.declared.packet.To.{To}
use Rattle.replica_model.specs.declared.packet.To.TheVariants as to
use Rattle.replica_model.specs.declared.input.Input.{Input}
use Rattle.part_keys.specs.Spelled.{Spelling}
use Rattle.replica_model.specs.Replica.{Home, Replica}
use Rattle.replica_model.specs.Stepped.{Leaving}
use Rattle.statement_run.specs.Caller.{Caller, nobody}

-- What doesn't change from the first replica's creation and the first call on: how many parts there are, the first
-- configuration of each, the kind of ids, and how entries are spelled. All but the last are what the table says.
pub record Space : Type 0 where
  pub parts : ℕ
  pub first : ℕ → Config
  pub ids : VidKind
  pub spelling : Spelling

abbrev pub space_of : Spelling → PartTable → Space
space_of spelling t = record { parts = parts_in t; first = λ p. first_in t; ids = t.ids; spelling = spelling }

abbrev pub home_of : Space → ℕ → Home
home_of sp p = record { part = p; parts = sp.parts; ids = sp.ids; spelling = sp.spelling }

-- How a replica stands: it was never created; it is up; it stopped inside a step, and stands here as it was before it, with
-- what came, for whether its record is there is told at the restart; it is down, with what is durable; it is gone.
pub data Standing : Type 0 where
  Vacant : Standing
  Up : Replica → Standing
  Stopped : Replica → Input → Standing
  Down : Durable → Standing
  Gone : Standing

-- a packet that was sent; of the answer of a read, the moment at which its round was asked for, of any other 0
pub record Post : Type 0 where
  pub packet : Packet
  pub moment : ℕ

abbrev pub post_of : Packet → Post
post_of packet = record { packet = packet; moment = 0 }

-- the moment of a round, by those of its leader's term; of no round 0
abbrev pub moment_in : (ℕ → ℕ) → ℕ → ℕ
moment_in asked zero = 0
moment_in asked (suc round) = asked (suc round)

-- what leaves, as a post
abbrev pub posted : (ℕ → ℕ) → Leaving → Post
posted asked leaving = record { packet = leaving.packet; moment = moment_in asked leaving.round }

-- The table of parts, nodes and tasks; of each replica, by part and peer, how it stands, its node, and how many of its steps
-- stopped; the clients; all packets ever sent; of which packets a Deliver or a Lose stands; what each part decided, and the
-- graph steps that this amounts to; and of each round, by part, term and number, the moment at which it was asked for.
pub record State : Type 0 where
  pub table : PartTable
  pub placed : ℕ → ℕ → Standing
  pub nodes : ℕ → ℕ → ℕ
  pub stops : ℕ → ℕ → ℕ
  pub callers : ℕ → Caller
  pub posts : List Post
  pub done : ℕ → Bool
  pub ledger : Ledger
  pub asked : ℕ → ℕ → ℕ → ℕ

-- nothing on the nodes of the table
abbrev pub began : PartTable → State
began t = record {
  table = t;
  placed = λ p y. Vacant;
  nodes = λ p y. 0;
  stops = λ p y. 0;
  callers = λ c. nobody;
  posts = [];
  done = λ k. false;
  ledger = blank_ledger;
  asked = λ p t round. 0;
}

-- so many nodes
abbrev pub start : ℕ → State
start n = began (boot n)

-- the moment: how many graph steps were given
abbrev pub now : State → ℕ
now s = length s.ledger.steps

-- A core of the world: a client, or a replica. Each event is about one of them, or about neither.
pub data Site : Type 0 where
  AtClient : ℕ → Site
  AtPeer : ℕ → ℕ → Site
  Nowhere : Site

-- Who gets a packet, by the table: a try goes to the peer at that place of the part's row, counted round. Whether it is up,
-- stopped or down is the peer's own matter.
abbrev pub at_peer : ℕ → Option ℕ → Site
at_peer p None = Nowhere
at_peer p (Some y) = AtPeer p y

abbrev pub resolve : PartTable → To → Site
resolve t (to.Client c) = AtClient c
resolve t (to.Peer p y) = AtPeer p y
resolve t (to.Part p tries) = at_peer p (tried t p tries)

-- a value of each part and peer, of each client, changed at one of them
abbrev pub at_one : {A : Type 0} → (ℕ → ℕ → A) → ℕ → ℕ → A → ℕ → ℕ → A
at_one f p y x q z = if (q == p) && (z == y) then x else f q z

abbrev pub of_one : {A : Type 0} → (ℕ → A) → ℕ → A → ℕ → A
of_one f c x d = if d == c then x else f d
