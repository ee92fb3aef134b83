-- Laws of each step.
use Rattle.std.specs.Prelude.{◌≡◌, ℕ, ◌+◌, ◌<◌, ◌≤◌, ◌⊎◌, ◌↔◌, max, List, [], ◌∷◌, ◌++◌, length, take, drop, None, Some, Ok, Err, true, false}
use Rattle.std.specs.List.{AllByRecursion}
use Rattle.raft_log.specs.declared.entry.Entry.{Entry}
use Rattle.raft_log.specs.declared.mark.Mark.{Mark}
use Rattle.raft_log.specs.declared.message.RaftMsg.{RaftMsg}
use Rattle.raft_log.specs.declared.message.RaftMsg.TheVariants.{Append, Appended, Vote, Voted, TimeoutNow}
use Rattle.raft_log.specs.Log.{mark_at}
use Rattle.raft_core.specs.declared.input.RaftInput.{RaftInput}
use Rattle.raft_core.specs.declared.input.RaftInput.TheVariants.{Msg, Elect, Pulse, Propose, Transfer, Change, Confirm}
use Rattle.raft_core.specs.Core.{Core, Row, is_leading, is_standing}
use Rattle.raft_core.specs.Votes.{term_in, no_op}
use Rattle.raft_core.specs.Appends.{reach, most_entries}
use Rattle.member_change.specs.Permit.{Answer}
use Rattle.raft_core.specs.Members.{members_entry, permitted}
use Rattle.raft_core.specs.Step.{Stepped, stepped, payload, refusal}
use Rattle.raft_core.specs.Durable.{durable, kept}

-- A leader's row: next is above match, and at most the last index plus 1.
pub record IsRow (last : ℕ) (row : Row) : Type 0 where
  pub ahead : row.progress.matched < row.progress.next
  pub within : row.progress.next ≤ last + 1

-- What holds of a peer's state from its opening on, and what each step keeps.
pub record IsPeer (core : Core) : Type 0 where
  pub within : core.commit ≤ length core.log
  pub standing : is_standing core.role ≡ true → 0 < core.term
  pub leading : is_leading core.role ≡ true → 0 < core.term
  pub rows : is_leading core.role ≡ true → AllByRecursion (IsRow (length core.log)) core.rows

-- kept_is_all: term, vote and log behind are those before, changed by the record
abbrev pub KeptIsAll : Core → Stepped → Type 0
KeptIsAll core st = durable st.core ≡ kept (durable core) st.kept

-- commits: what is committed is the log between the two commits; the commit doesn't fall, and is within the log
pub record Commits (core : Core) (st : Stepped) : Type 0 where
  pub between : st.committed ≡ drop core.commit (take st.core.commit st.core.log)
  pub falls_not : core.commit ≤ st.core.commit
  pub within : st.core.commit ≤ length st.core.log

-- keeps decided: the entries up to the commit stay
abbrev pub KeepsDecided : Core → Stepped → Type 0
KeepsDecided core st = take core.commit st.core.log ≡ take core.commit core.log

-- the log behind an answer to a change: with the configuration that it permits, or as it was
abbrev pub IsChangedBy : Core → Answer → List Entry → Type 0
IsChangedBy core (Ok config) behind = behind ≡ core.log ++ members_entry core.term config ∷ []
IsChangedBy core (Err refusal) behind = behind ≡ core.log

-- what a step makes of a leader's log: it may put one entry behind it, the proposed payload or a configuration
abbrev pub IsProposedTo : Core → RaftInput → List Entry → Type 0
IsProposedTo core (Msg from message) behind = behind ≡ core.log
IsProposedTo core Elect behind = behind ≡ core.log
IsProposedTo core Pulse behind = behind ≡ core.log
IsProposedTo core (Propose bytes) behind = behind ≡ core.log ++ payload core.term bytes ∷ []
IsProposedTo core (Transfer peer) behind = behind ≡ core.log
IsProposedTo core (Change change) behind = IsChangedBy core (permitted core change) behind
IsProposedTo core Confirm behind = behind ≡ core.log

-- it led the term before, and the log got what was proposed, or nothing where nothing was
pub record LedOn (core : Core) (input : RaftInput) (behind : Core) : Type 0 where
  pub led : is_leading core.role ≡ true
  pub same_term : behind.term ≡ core.term
  pub got : IsProposedTo core input behind.log

-- it leads the term newly, and the log got one no-op
pub record LedNewly (core : Core) (behind : Core) : Type 0 where
  pub not_before : (is_leading core.role ≡ false) ⊎ (core.term < behind.term)
  pub above : 0 < behind.term
  pub got : behind.log ≡ core.log ++ no_op behind.term ∷ []

-- appends_as_leader
abbrev pub AppendsAsLeader : Core → RaftInput → Stepped → Type 0
AppendsAsLeader core input st = is_leading st.core.role ≡ true → LedOn core input st.core ⊎ LedNewly core st.core

-- an Append is of the sender's term; the place before it and its entries, of which there are few, stand in the sender's
-- log, and its commit and round are the sender's
pub record IsOfLog (core : Core) (term : ℕ) (previous : Mark) (commit round : ℕ) (entries : List Entry) : Type 0 where
  pub leads : is_leading core.role ≡ true
  pub own : term ≡ core.term
  pub placed : previous ≡ mark_at core.log previous.index
  pub cut : entries ≡ take (length entries) (drop previous.index core.log)
  pub within : reach previous entries ≤ length core.log
  pub few : length entries ≤ most_entries
  pub told : commit ≡ core.commit
  pub asked : round ≡ core.round

abbrev pub IsSentBy : Core → RaftMsg → Type 0
IsSentBy core (Append term previous commit round entries) = IsOfLog core term previous commit round entries
IsSentBy core (Appended term ok index round) = Unit {0}
IsSentBy core (Vote term last) = Unit {0}
IsSentBy core (Voted term granted) = Unit {0}
IsSentBy core (TimeoutNow term) = Unit {0}

-- sends_its_log
abbrev pub SendsItsLog : Stepped → Type 0
SendsItsLog st = AllByRecursion (λ (send : ℕ × RaftMsg). IsSentBy st.core send.1) st.sends

-- up to which index an Append that came reaches
abbrev pub reach_in : RaftMsg → ℕ
reach_in (Append term previous commit round entries) = reach previous entries
reach_in (Appended term ok index round) = 0
reach_in (Vote term last) = 0
reach_in (Voted term granted) = 0
reach_in (TimeoutNow term) = 0

abbrev pub reach_of : RaftInput → ℕ
reach_of (Msg from message) = reach_in message
reach_of Elect = 0
reach_of Pulse = 0
reach_of (Propose bytes) = 0
reach_of (Transfer peer) = 0
reach_of (Change change) = 0
reach_of Confirm = 0

-- no_longer: the log is at most one longer than before, or than the Append that came reaches
abbrev pub NoLonger : Core → RaftInput → Stepped → Type 0
NoLonger core input st = length st.core.log ≤ max (length core.log + 1) (reach_of input)

-- a step that changes and gives nothing
abbrev pub nothing : Core → Stepped
nothing core = record { core = core; kept = None; sends = []; committed = []; began = false; confirmed = 0; change = None }

-- only_leaders_propose: exactly a proposal, a transfer, a change or a round at another role is refused; then nothing
-- changes
abbrev pub IsLeaderless : Core → RaftInput → Type 0
IsLeaderless core (Msg from message) = ⊥
IsLeaderless core Elect = ⊥
IsLeaderless core Pulse = ⊥
IsLeaderless core (Propose bytes) = is_leading core.role ≡ false
IsLeaderless core (Transfer peer) = is_leading core.role ≡ false
IsLeaderless core (Change change) = is_leading core.role ≡ false
IsLeaderless core Confirm = is_leading core.role ≡ false

pub record OnlyLeadersPropose (core : Core) (input : RaftInput) : Type 0 where
  pub exactly : (hint : ℕ) → (refusal core input ≡ Some (record { hint = hint })) ↔ (IsLeaderless core input × (hint ≡ core.hint))
  pub unchanged : IsLeaderless core input → stepped core input ≡ nothing core

-- the round of an Append of that term
abbrev pub IsRoundOf : RaftMsg → ℕ → ℕ → Type 0
IsRoundOf (Append own previous commit asked entries) term round = (own ≡ term) × (asked ≡ round)
IsRoundOf (Appended own ok index given) term round = ⊥
IsRoundOf (Vote own last) term round = ⊥
IsRoundOf (Voted own granted) term round = ⊥
IsRoundOf (TimeoutNow own) term round = ⊥

abbrev pub IsAskedBy : RaftInput → ℕ → ℕ → Type 0
IsAskedBy (Msg from message) term round = IsRoundOf message term round
IsAskedBy Elect term round = ⊥
IsAskedBy Pulse term round = ⊥
IsAskedBy (Propose bytes) term round = ⊥
IsAskedBy (Transfer peer) term round = ⊥
IsAskedBy (Change change) term round = ⊥
IsAskedBy Confirm term round = ⊥

-- gives_rounds_back: an Appended is of the own term, and gives back the round of an Append of that term that came, or 0
abbrev pub GivesBack : RaftInput → Core → RaftMsg → Type 0
GivesBack input behind (Append term previous commit round entries) = Unit {0}
GivesBack input behind (Appended term ok index round) = (term ≡ behind.term) × ((round ≡ 0) ⊎ IsAskedBy input term round)
GivesBack input behind (Vote term last) = Unit {0}
GivesBack input behind (Voted term granted) = Unit {0}
GivesBack input behind (TimeoutNow term) = Unit {0}

abbrev pub GivesRoundsBack : RaftInput → Stepped → Type 0
GivesRoundsBack input st = AllByRecursion (λ (send : ℕ × RaftMsg). GivesBack input st.core send.1) st.sends

-- what a leader's rows say of each member's confirmed round
abbrev pub AreConfirmed : (ℕ → ℕ → Type 0) → List Row → Type 0
AreConfirmed P rows = AllByRecursion (λ (row : Row). P row.peer row.progress.confirmed) rows

-- what an Appended of the leader's term says of it
abbrev pub IsConfirmedIn : (ℕ → ℕ → Type 0) → Core → ℕ → RaftMsg → Type 0
IsConfirmedIn P core from (Append term previous commit round entries) = Unit {0}
IsConfirmedIn P core from (Appended term ok index round) = term ≡ core.term → P from round
IsConfirmedIn P core from (Vote term last) = Unit {0}
IsConfirmedIn P core from (Voted term granted) = Unit {0}
IsConfirmedIn P core from (TimeoutNow term) = Unit {0}

abbrev pub IsConfirmedBy : (ℕ → ℕ → Type 0) → Core → RaftInput → Type 0
IsConfirmedBy P core (Msg from message) = IsConfirmedIn P core from message
IsConfirmedBy P core Elect = Unit {0}
IsConfirmedBy P core Pulse = Unit {0}
IsConfirmedBy P core (Propose bytes) = Unit {0}
IsConfirmedBy P core (Transfer peer) = Unit {0}
IsConfirmedBy P core (Change change) = Unit {0}
IsConfirmedBy P core Confirm = Unit {0}

-- it led the term before; its round is that before, or one more; and the rows say what they said, or what an Appended did
pub record KeepsRounds (P : ℕ → ℕ → Type 0) (core behind : Core) : Type 0 where
  pub led : is_leading core.role ≡ true
  pub same_term : behind.term ≡ core.term
  pub round : (behind.round ≡ core.round) ⊎ (behind.round ≡ core.round + 1)
  pub rows : AreConfirmed P behind.rows

-- it leads the term newly, with no round
pub record BeginsRounds (core behind : Core) : Type 0 where
  pub not_before : (is_leading core.role ≡ false) ⊎ (core.term < behind.term)
  pub round : behind.round ≡ 0
  pub rows : AreConfirmed (λ peer round. round ≡ 0) behind.rows

-- a law for any P, so a lemma and no contract: for what holds of round 0, and of the greater of two rounds
abbrev pub CountsRounds : Core → RaftInput → Stepped → Type 1
CountsRounds core input st = (P : ℕ → ℕ → Type 0) → ((peer : ℕ) → P peer 0) → ((peer a b : ℕ) → P peer a → P peer b → P peer (max a b))
    → AreConfirmed P core.rows → IsConfirmedBy P core input → is_leading st.core.role ≡ true
    → KeepsRounds P core st.core ⊎ BeginsRounds core st.core

-- speaks_in_its_term: each message that leaves has the sender's term behind the step
abbrev pub SpeaksInItsTerm : Stepped → Type 0
SpeaksInItsTerm st = AllByRecursion (λ (send : ℕ × RaftMsg). term_in send.1 ≡ st.core.term) st.sends

-- rounds_rise: a leader that leads on has no lower round
abbrev pub RoundsRise : Core → Stepped → Type 0
RoundsRise core st = is_leading core.role ≡ true → is_leading st.core.role ≡ true → core.term ≡ st.core.term → core.round ≤ st.core.round
