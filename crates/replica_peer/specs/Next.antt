-- What becomes of a replica by a step that is made ahead.
use Rattle.std.specs.Prelude.{◌≡◌, ℕ, suc, ◌<◌, ◌≤◌, ◌==◌, ◌||◌, not, Bool, true, List, [], ◌∷◌, ◌++◌, length, Option, None, Some, if◌then◌else◌, vec_len, vec_capacity}
use Rattle.std.specs.List.{filter, list_any}
use Rattle.std.specs.Ordering.{nat_cmp}
use Rattle.std.specs.FinMap.{empty, contains_key}
use Rattle.maps.specs.Places.{has_place}
use Rattle.kv_part.specs.Store.{Contents}
use Rattle.part_keys.specs.declared.chain.ChainState.{ChainState}
use Rattle.part_keys.specs.declared.entry.PartEntry.{PartEntry}
use Rattle.part_machine.specs.Machine.{IsMachine}
use Rattle.part_machine.specs.Playing as plays
use Rattle.part_machine.specs.declared.machine.Machine.{Machine}
use Rattle.chain_leader.specs.Resuming.{all_taken_up}
use Rattle.chain_leader.specs.Rules.{Table}
use Rattle.raft_core.specs.Core.{Core}
use Rattle.raft_core.specs.Peer.{Peer as RaftPeer, core_next, IsNextBy}
use Rattle.raft_core.specs.declared.effects.RaftEffects.{RaftEffects}
use Rattle.raft_core.specs.declared.input.RaftInput.{RaftInput}
use Rattle.raft_core.specs.declared.next_peer.NextPeer.{NextPeer}
use Rattle.replica_model.specs.declared.packet.Place.{Place}
use Rattle.replica_model.specs.Replica.{Home, Row, Replica, no_senders, no_hints, machine_of}
use Rattle.replica_model.specs.Stepped.{is_confirmed, pointed}
use Rattle.replica_state.specs.Asked.{ruled_table}
use Rattle.replica_state.specs.State.{row_of}
use Rattle.replica_state.specs.declared.asked.Rule.{Rule}
use Rattle.replica_peer.specs.declared.next.Next.{Next}
use Rattle.replica_peer.specs.declared.next.Next.TheVariants as next
use Rattle.replica_peer.specs.declared.next.Reads.{Reads}
use Rattle.replica_peer.specs.declared.next.Reads.TheVariants as reads
use Rattle.replica_peer.specs.declared.next.Steps.{Steps}
use Rattle.replica_peer.specs.declared.peer.Peer.{Peer}
use Rattle.replica_peer.specs.Peer.{home_of, replica_of}
use Rattle.replica_peer.specs.Worked.{tabled}

-- the Raft peer: as it is where its step is refused
abbrev pub core_behind : Core → Option NextPeer → Core
core_behind core None = core
core_behind core (Some behind) = core_next core.log behind

-- A leader that leads the same term on keeps its table, changed by the rule that proposed; another begins with none.
abbrev pub table_left : Bool → Rule → Table → Table
table_left on rule t = if on then ruled_table rule t else empty

-- the senders that are kept, and one more
abbrev pub senders_by : Option (ℕ × Place) → (ℕ → Option Place) → ℕ → Option Place
senders_by None senders index = senders index
senders_by (Some kept) senders index = if index == kept.0 then Some kept.1 else senders index

abbrev pub senders_left : Bool → Option (ℕ × Place) → (ℕ → Option Place) → ℕ → Option Place
senders_left on sender senders = if on then senders_by sender senders else no_senders

-- the hints that are kept
abbrev pub hints_left : Bool → (ℕ → ℕ) → ℕ → ℕ
hints_left on hints = if on then hints else no_hints

-- the hints without those of these chains
abbrev pub unhinted : List ℕ → (ℕ → ℕ) → ℕ → ℕ
unhinted told hints v = if list_any (λ w. v == w) told then 0 else hints v

-- the hints without those of these chains, and of chains that aren't in the table
abbrev pub spent : List ℕ → Table → (ℕ → ℕ) → ℕ → ℕ
spent told table hints v = if list_any (λ w. v == w) told || not (contains_key table v) then 0 else hints v

-- the reads that wait
abbrev pub reads_left : Reads → List Row → List Row
reads_left reads.Dropped rows = []
reads_left reads.Stay rows = rows
reads_left (reads.OneMore read) rows = rows ++ row_of read ∷ []

-- the table behind the entries that are applied
abbrev pub table_by : Home → Replica → Steps → Table
table_by home r s = tabled home.parts (machine_of home r) (table_left s.on s.rule r.lead.table) s.placed s.begins.items

-- a step of the Raft peer
abbrev pub steps_to : Home → Replica → Steps → Replica
steps_to home r s = record {
  core = core_behind r.core s.core;
  lead = record { ready = s.ready; policy = s.policy; table = table_by home r s };
  senders = senders_left s.on s.sender r.senders;
  hints = spent s.told.items (table_by home r s) (hints_left s.on r.hints);
  rows = filter (λ (row : Row). not (is_confirmed s.confirmed row)) (reads_left s.reads r.rows);
}

-- the replica behind what becomes of it
abbrev pub goes_to : Home → Replica → Next → Replica
goes_to home r next.Stays = r
goes_to home r (next.Points v peer) = pointed r v peer
goes_to home r (next.Resumes made told) = record r { lead = record r.lead { table = all_taken_up made.rows.items r.lead.table }; hints = unhinted told.items r.hints }
goes_to home r (next.Steps s) = steps_to home r s

-- what stands behind a step is of a step of that Raft peer
abbrev pub IsBehind : RaftPeer → Option NextPeer → Type 0
IsBehind peer None = Unit {0}
IsBehind peer (Some behind) = (input : RaftInput) × (effects : RaftEffects) × IsNextBy peer input effects behind

-- there is a place for the sender that is kept
abbrev pub HasSenderPlace : List (ℕ × Option Place) → Option (ℕ × Place) → Type 0
HasSenderPlace places None = Unit {0}
HasSenderPlace places (Some kept) = has_place nat_cmp places kept.0 ≡ true

-- there is room for one more read, behind so many in so much room
abbrev pub HasReadRoom : ℕ → ℕ → Reads → Type 0
HasReadRoom count room (reads.OneMore read) = count < room
HasReadRoom count room other = Unit {0}

-- how many rows are added
abbrev pub rows_in : List (Option (ℕ × ChainState)) → ℕ
rows_in [] = 0
rows_in (None ∷ begins) = rows_in begins
rows_in (Some row ∷ begins) = suc (rows_in begins)

-- the first of some rows, and those behind it
abbrev pub first_row : List (Option (ℕ × ChainState)) → Option (ℕ × ChainState)
first_row [] = None
first_row (row ∷ begins) = row

abbrev pub rows_behind : List (Option (ℕ × ChainState)) → List (Option (ℕ × ChainState))
rows_behind [] = []
rows_behind (row ∷ begins) = begins

-- There is room for all that a step of the Raft peer changes, and the machine has its entries reserved.
pub record FitsSteps {S : Type 0} (meaning : S → Contents) (has_at : S → List ℕ → Bool) (a : Peer S) (s : Steps) : Type 0 where
  pub core : IsBehind a.state.core s.core
  pub shows : IsMachine meaning has_at (machine_of (home_of a) (replica_of a)) s.placed a.machine
  pub sender : HasSenderPlace a.state.senders.entries s.sender
  pub spare : rows_in s.begins.items ≤ a.state.leader.table.1
  pub room : HasReadRoom (vec_len a.state.rows) (vec_capacity a.state.rows) s.reads

-- there is room for what becomes of a peer
abbrev pub FitsNext : {S : Type 0} → (S → Contents) → (S → List ℕ → Bool) → Peer S → Next → Type 0
FitsNext meaning has_at a next.Stays = Unit {0}
FitsNext meaning has_at a (next.Points v peer) = has_place nat_cmp a.state.hints.entries v ≡ true
FitsNext meaning has_at a (next.Resumes made told) = length made.rows.items ≤ a.state.leader.table.1
FitsNext meaning has_at a (next.Steps s) = FitsSteps meaning has_at a s

-- What a machine shows behind what becomes of a peer, at which entries are reserved: the entries of a step are applied, else it
-- is as it was.
abbrev pub ShowsNext : {S : Type 0} → (S → Contents) → (S → List ℕ → Bool) → Peer S → Next → List (ℕ × PartEntry) → Machine S → Type 0
ShowsNext meaning has_at a (next.Steps s) reserved machine =
    IsMachine meaning has_at (plays.behind a.machine.setting (machine_of (home_of a) (replica_of a)) s.placed) [] machine
    × (machine.next ≡ plays.next_by a.machine.next s.placed)
ShowsNext meaning has_at a other reserved machine =
    IsMachine meaning has_at (machine_of (home_of a) (replica_of a)) reserved machine × (machine.next ≡ a.machine.next)
