-- Entries that a leader applies, as they are seen ahead: what they send hangs on whether the leader is ready, and on nothing
-- else of it.
use Rattle.std.specs.Prelude.{ℕ, suc, Bool, true, List, [], ◌∷◌, ◌++◌, Option, None, Some, if◌then◌else◌}
use Rattle.std.specs.FinMap.{insert}
use Rattle.part_keys.specs.declared.chain.ChainState.{ChainState}
use Rattle.part_keys.specs.declared.entry.PartEntry.{PartEntry}
use Rattle.part_keys.specs.declared.proposal.Proposal.{Proposal}
use Rattle.part_keys.specs.declared.proposal.Proposal.TheVariants.{Made}
use Rattle.part_rules.specs.declared.applied.Applied.{Applied}
use Rattle.part_rules.specs.Part.{Part}
use Rattle.part_rules.specs.Machine.{applied}
use Rattle.part_rules.specs.Folded.{item_applied}
use Rattle.part_machine.specs.Ahead.{begun_behind}
use Rattle.chain_leader.specs.declared.letter.Letter.{Letter}
use Rattle.chain_leader.specs.declared.new_chain.NewChain.{NewChain}
use Rattle.chain_leader.specs.Rules.{Table}
use Rattle.chain_leader.specs.Applying.{beginning_by}
use Rattle.chain_leader.specs.Leading.{Leading, Applies, idle, chain_in, forgetting, on_item}
use Rattle.replica_model.specs.declared.packet.Place.{Place}
use Rattle.replica_model.specs.declared.packet.Packet.{Packet}
use Rattle.replica_model.specs.Replica.{Home}
use Rattle.replica_model.specs.Letters.{Worked, packets_of}

-- the entries among items, each at its index, the first item at this one
abbrev pub and_entry : ℕ → Proposal → List (ℕ × PartEntry) → List (ℕ × PartEntry)
and_entry index (Made x) entries = (index, x) ∷ entries
and_entry index other entries = entries

abbrev pub entries_at : ℕ → List (ℕ × Proposal) → List (ℕ × PartEntry)
entries_at index [] = []
entries_at index (d ∷ items) = and_entry index d.1 (entries_at (suc index) items)

-- a leader with no chain, ready or not
abbrev pub by_ready : Bool → Leading
by_ready ready = record idle { ready = ready }

-- the row of a chain that begins, at a leader that is ready
abbrev pub row_in : Bool → Option NewChain → Option (ℕ × ChainState)
row_in true (Some made) = Some (made.v, made.chain)
row_in ready other = None

-- the row that an entry begins, by the part behind it and its answer
abbrev pub row_begun : Bool → ℕ → Part × Applied → Option (ℕ × ChainState)
row_begun ready term behind = row_in ready (beginning_by term behind.1 (begun_behind behind.0 behind.1))

-- one for an entry, none for another item
abbrev pub begins_at : ℕ → Bool → ℕ → ℕ → Part → Proposal → List (Option (ℕ × ChainState))
begins_at parts ready term index machine (Made x) = row_begun ready term (applied parts index x machine) ∷ []
begins_at parts ready term index machine other = []

-- What items send when they are applied, the row that begins with each entry, and whether the leader is ready behind them.
pub record Sent : Type 0 where
  pub ready : Bool
  pub answers : List Packet
  pub rules : List Letter
  pub begins : List (Option (ℕ × ChainState))

abbrev pub then_sent : (List Letter → List Packet) → Applies → List (Option (ℕ × ChainState)) → Sent → Sent
then_sent address first begins rest = record {
  ready = rest.ready;
  answers = address first.answers ++ rest.answers;
  rules = first.rules ++ rest.rules;
  begins = begins ++ rest.begins;
}

abbrev pub sent : Home → ℕ → ℕ → (ℕ → Option Place) → Part → Bool → ℕ → List (ℕ × Proposal) → Sent
sent home me term senders machine ready index [] = record { ready = ready; answers = []; rules = []; begins = [] }
sent home me term senders machine ready index (d ∷ items) =
    then_sent (packets_of home.part me term (λ v. 0) (senders index)) (on_item home.parts term machine (by_ready ready) index d) (begins_at home.parts ready term index machine d.1)
    (sent home me term senders (item_applied home.parts index d.1 machine).0 (on_item home.parts term machine (by_ready ready) index d).leading.ready (suc index) items)

-- the table with the row of a chain that begins
abbrev pub with_row : Table → Option (ℕ × ChainState) → Table
with_row t None = t
with_row t (Some row) = insert t row.0 row.1

-- the table behind entries, each with the row that begins with it, none where there is none left
abbrev pub tabled : ℕ → Part → Table → List (ℕ × PartEntry) → List (Option (ℕ × ChainState)) → Table
tabled parts machine table [] begins = table
tabled parts machine table (x ∷ entries) [] = tabled parts (applied parts x.0 x.1 machine).0 (forgetting table (applied parts x.0 x.1 machine).0 (chain_in x.1)) entries []
tabled parts machine table (x ∷ entries) (b ∷ begins) =
    tabled parts (applied parts x.0 x.1 machine).0 (with_row (forgetting table (applied parts x.0 x.1 machine).0 (chain_in x.1)) b) entries begins

-- what a leader makes of items, by what they send
abbrev pub worked_by : ℕ → Part → Leading → List (ℕ × PartEntry) → Sent → Worked
worked_by parts machine l entries s = record {
  leading = record { ready = s.ready; policy = l.policy; table = tabled parts machine l.table entries s.begins };
  answers = s.answers;
  rules = s.rules;
}

-- what items send at a leader; at another role nothing
abbrev pub sent_where : Bool → Home → ℕ → ℕ → (ℕ → Option Place) → Part → Bool → ℕ → List (ℕ × Proposal) → Sent
sent_where leads home me term senders machine ready index items =
    if leads then sent home me term senders machine ready index items else record { ready = ready; answers = []; rules = []; begins = [] }
