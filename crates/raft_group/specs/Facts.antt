-- What holds of a group in each of its states: the facts that the layers above stand on.
use Rattle.std.specs.Prelude.{◌≡◌, ℕ, ◌-◌, ◌<◌, ◌≤◌, List, map, length, take, drop, Some, true, slice_get, ◌+◌, false}
use Rattle.std.specs.List.{AllByRecursion}
use Rattle.raft_log.specs.declared.entry.Entry.{Entry}
use Rattle.raft_log.specs.declared.entry.Item.{Item}
use Rattle.raft_log.specs.Decided.{Leadership, Follows}
use Rattle.raft_core.specs.Core.{Core, is_leading}
use Rattle.raft_log.specs.Majority.{is_among}
use Rattle.raft_core.specs.Rounds.{confirmed_of}
use Rattle.raft_core.specs.Laws.{IsPeer}
use Rattle.raft_group.specs.Group.{Round, Group, blank, first_entry}

-- entries as pairs
abbrev pub pairs_of : List Entry → List (ℕ × Item)
pairs_of log = map (λ (entry : Entry). (entry.term, entry.item)) log

-- the leadership stands among these, at this place
abbrev pub StandsAt : List (Leadership Item) → ℕ → Leadership Item → Type 0
StandsAt leaders k l = slice_get leaders k ≡ Some l

-- no two leaderships have one term
abbrev pub HasOneATerm : List (Leadership Item) → Type 0
HasOneATerm leaders = (j k : ℕ) (l m : Leadership Item) → StandsAt leaders j l → StandsAt leaders k m → l.term ≡ m.term → j ≡ k

-- a peer's committed entries are the first of the decided ones
pub record AgreesWith (decided : List Entry) (core : Core) : Type 0 where
  pub within : core.commit ≤ length decided
  pub same : take core.commit core.log ≡ take core.commit decided

-- what a peer has that leads: a leadership of its term, whose entries are the log behind the one that it began with,
-- the no-op first
pub record LeadsBy (core : Core) (l : Leadership Item) : Type 0 where
  pub term : l.term ≡ core.term
  pub peer : l.peer ≡ core.me
  pub above : 0 < core.term
  pub base : l.base ≤ length core.log
  pub noop : core.noop ≡ l.base + 1
  pub made : pairs_of (drop l.base core.log) ≡ map (λ (item : Item). (core.term, item)) l.made
  pub before : AllByRecursion (λ (entry : Entry). entry.term < core.term) (take l.base core.log)

-- the entry at a place, counted from 0, was made by this leadership
pub record MadeBy (l : Leadership Item) (place : ℕ) (entry : Entry) : Type 0 where
  pub term : l.term ≡ entry.term
  pub behind : l.base ≤ place
  pub made : slice_get l.made (place - l.base) ≡ Some entry.item

-- where a ready leader began the round, its commit then was all that was decided
abbrev pub KnewDecided : Round → Type 0
KnewDecided r = r.ready ≡ true → r.commit ≡ r.decided

-- confirmed reads: of each round of its term that a majority of a leader's voters has confirmed
abbrev pub ConfirmsWell : List Round → Core → Type 0
ConfirmsWell rounds core = AllByRecursion (λ (r : Round). r.term ≡ core.term → r.round ≤ confirmed_of core → KnewDecided r) rounds

-- an entry of term 0 is the first configuration, at the head of the log
pub record IsFounding (g : Group) (place : ℕ) (entry : Entry) : Type 0 where
  pub head : place ≡ 0
  pub first : entry ≡ first_entry g.first

pub record GroupFacts (g : Group) : Type 0 where
  -- each peer is one, under its id; one that was never placed has nothing
  pub peers : (peer : ℕ) → IsPeer (g.core peer)
  pub named : (peer : ℕ) → (g.core peer).me ≡ peer
  pub unplaced : (peer : ℕ) → is_among peer g.placed ≡ false → g.core peer ≡ blank peer
  -- one leader a term
  pub one_a_term : HasOneATerm g.leaders
  -- prefix agreement
  pub agrees : (peer : ℕ) → AgreesWith g.decided (g.core peer)
  -- rising terms; each decided entry was made by the leader of its term, in order, none left out
  pub follows : Follows g.leaders (pairs_of g.decided)
  pub leads : (peer : ℕ) → is_leading (g.core peer).role ≡ true → (k : ℕ) × (l : Leadership Item) × StandsAt g.leaders k l × LeadsBy (g.core peer) l
  pub bounded : (peer place : ℕ) (entry : Entry) → slice_get (g.core peer).log place ≡ Some entry → entry.term ≤ (g.core peer).term
  pub made_there : (peer place : ℕ) (entry : Entry) → slice_get (g.core peer).log place ≡ Some entry → (k : ℕ) × (l : Leadership Item) × StandsAt g.leaders k l × MadeBy l place entry
  pub founded : (peer place : ℕ) (entry : Entry) → slice_get (g.core peer).log place ≡ Some entry → entry.term ≡ 0 → IsFounding g place entry
  -- confirmed reads
  pub confirmed : (peer : ℕ) → is_leading (g.core peer).role ≡ true → ConfirmsWell g.rounds (g.core peer)
