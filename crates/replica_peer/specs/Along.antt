-- Items that are worked off one after another, ahead of their being applied.
use Rattle.std.specs.Prelude.{◌≡◌, ℕ, List, ◌++◌, map, drop, length, Option}
use Rattle.part_keys.specs.declared.entry.PartEntry.{PartEntry}
use Rattle.part_keys.specs.declared.proposal.Proposal.{Proposal}
use Rattle.part_rules.specs.Part.{Part}
use Rattle.part_machine.specs.Ahead.{answers, beginnings}
use Rattle.replica_model.specs.declared.packet.Place.{Place}
use Rattle.replica_model.specs.Replica.{Home}
use Rattle.replica_model.specs.Stepped.{Leaving, leaving}
use Rattle.replica_state.specs.Leaving.{leaving_of}
use Rattle.replica_peer.specs.declared.placing.Kind.{Kind}
use Rattle.replica_peer.specs.declared.worked.WorkedAhead.{WorkedAhead}
use Rattle.replica_peer.specs.Placed.{kinds_at}
use Rattle.replica_peer.specs.Worked.{Sent, entries_at, sent}

-- items that were worked off, behind what left before
pub record IsWorked (before : List Leaving) (s : Sent) (w : WorkedAhead) : Type 0 where
  pub leaves : map leaving_of w.leaves ≡ before ++ map leaving s.answers
  pub rules : w.rules.items ≡ s.rules
  pub begins : w.begins.items ≡ s.begins
  pub ready : w.ready ≡ s.ready

-- Of placed entries, so many are worked off: those that are left are the entries among these items, which the machine would apply
-- from this part on.
pub record AreLeft (parts : ℕ) (p : Part) (placed : List (ℕ × PartEntry)) (done index : ℕ) (machine : Part) (items : List (ℕ × Proposal)) : Type 0 where
  pub entries : drop done placed ≡ entries_at index items
  pub answers : drop done (answers parts p placed) ≡ answers parts machine (entries_at index items)
  pub beginnings : drop done (beginnings parts p placed) ≡ beginnings parts machine (entries_at index items)

-- these items are left, of these kinds: with what they send, all is sent
pub record IsAt (home : Home) (me term : ℕ) (senders : ℕ → Option Place) (p : Part) (placed : List (ℕ × PartEntry)) (before : List Leaving) (all : Sent) (kinds : List Kind) (w : WorkedAhead) (index : ℕ) (machine : Part) (items : List (ℕ × Proposal)) : Type 0 where
  pub kinds_are : kinds ≡ kinds_at senders index items
  pub left : AreLeft home.parts p placed (length w.begins.items) index machine items
  pub leaves : map leaving_of w.leaves ++ map leaving (sent home me term senders machine w.ready index items).answers ≡ before ++ map leaving all.answers
  pub rules : w.rules.items ++ (sent home me term senders machine w.ready index items).rules ≡ all.rules
  pub begins : w.begins.items ++ (sent home me term senders machine w.ready index items).begins ≡ all.begins
  pub ready : (sent home me term senders machine w.ready index items).ready ≡ all.ready

abbrev pub IsAlong : Home → ℕ → ℕ → (ℕ → Option Place) → Part → List (ℕ × PartEntry) → List Leaving → Sent → List Kind → WorkedAhead → Type 0
IsAlong home me term senders p placed before all kinds w =
    (index : ℕ) × (machine : Part) × (items : List (ℕ × Proposal)) × IsAt home me term senders p placed before all kinds w index machine items
