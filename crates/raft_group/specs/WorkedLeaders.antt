-- Leaders that follow each other, worked by hand.
use Rattle.std.specs.Prelude.{◌≡◌, ℕ, ◌==◌, List, [], ◌∷◌, true, false, if◌then◌else◌}
use Rattle.raft_log.specs.declared.config.Config.{Config}
use Rattle.raft_log.specs.declared.message.RaftMsg.TheVariants.{Appended}
use Rattle.raft_log.specs.declared.role.Role.TheVariants.{Follower, Leader}
use Rattle.raft_core.specs.Core.{Core, opened}
use Rattle.raft_core.specs.declared.progress.Row.{Row}
use Rattle.raft_core.specs.Rounds.{confirmed_of}
use Rattle.raft_group.specs.declared.event.Spur.TheVariants.{Sent as SentSpur, Elect, Confirm}
use Rattle.raft_group.specs.declared.event.GroupEvent.{GroupEvent}
use Rattle.raft_group.specs.declared.event.GroupEvent.TheVariants.{Step, Crash}
use Rattle.raft_group.specs.Group.{Group, first_entry, founding, run_from}
use Rattle.raft_group.specs.Worked.{noop_of}
use Rattle.raft_group.specs.WorkedChanges.{ready}

-- Figure 3.7 of Ongaro's dissertation, at its third moment. Of five voters the first led term 2 and wrote its no-op at 2,
-- which the second has too; the fifth led term 3 and wrote another one there; now the first leads term 4, and the third
-- takes the entry of term 2 from it, whose answer is the one message under way.
abbrev pub five : Config
five = record { voters = 1 ∷ 2 ∷ 3 ∷ 4 ∷ 5 ∷ []; learners = [] }

abbrev pub sent_row : ℕ → ℕ → Row
sent_row peer matched = record { peer = peer; progress = record { next = 3; matched = matched; in_flight = true; told = 0; confirmed = 0 } }

abbrev pub leads_fourth : Core
leads_fourth = record (opened 1 4 1 (first_entry five ∷ noop_of 2 ∷ noop_of 4 ∷ [])) { role = Leader; noop = 3; rows = sent_row 2 2 ∷ sent_row 3 0 ∷ sent_row 4 0 ∷ sent_row 5 0 ∷ [] }

abbrev pub has_second : ℕ → Core
has_second id = opened id 4 1 (first_entry five ∷ noop_of 2 ∷ [])

abbrev pub led_third : Core
led_third = opened 5 4 0 (first_entry five ∷ noop_of 3 ∷ [])

abbrev pub core_at : ℕ → Core
core_at id = if id == 1 then leads_fourth else (if id == 5 then led_third else (if id == 4 then opened 4 4 0 (first_entry five ∷ []) else has_second id))

abbrev pub third_moment : Group
third_moment = record {
  first = five;
  members = 1 ∷ 2 ∷ 3 ∷ 4 ∷ 5 ∷ [];
  placed = 1 ∷ 2 ∷ 3 ∷ 4 ∷ 5 ∷ [];
  core = core_at;
  sent = record { from = 3; to = 1; message = Appended 4 true 2 0 } ∷ [];
  decided = [];
  leaders = founding five ∷ [];
  rounds = [];
}

-- The entry of term 2 stands on three of five, and isn't committed ..
abbrev pub counted : List GroupEvent
counted = Step 1 (SentSpur 0) ∷ []

abbrev pub IsNotCounted : Type 0
IsNotCounted = (((run_from third_moment counted).core 1).commit ≡ 0) × ((run_from third_moment counted).decided ≡ [])

-- .. so it may go. The first crashes; the fifth asks for votes (messages 2 to 5 behind the Append that is message 1), gets
-- those of the second and the third, and leads term 5.
abbrev pub elected_fifth : List GroupEvent
elected_fifth = Step 1 (SentSpur 0) ∷ Crash 1 ∷ Step 5 Elect ∷ Step 2 (SentSpur 3) ∷ Step 3 (SentSpur 4) ∷ Step 5 (SentSpur 6) ∷ Step 5 (SentSpur 7) ∷ []

abbrev pub IsElectedFifth : Type 0
IsElectedFifth = (((run_from third_moment elected_fifth).core 5).role ≡ Leader)
    × (((run_from third_moment elected_fifth).core 5).log ≡ first_entry five ∷ noop_of 3 ∷ noop_of 5 ∷ [])

-- The third refuses its Append (message 10), and takes the next one: its entry of term 2 is overwritten.
abbrev pub leads_fifth : Core
leads_fifth = record (opened 5 5 5 (first_entry five ∷ noop_of 3 ∷ noop_of 5 ∷ [])) { role = Leader; noop = 3; rows = sent_row 1 0 ∷ sent_row 2 0 ∷ sent_row 3 0 ∷ sent_row 4 0 ∷ [] }

abbrev pub fourth_moment : Group
fourth_moment = record third_moment {
  core = λ id. if id == 5 then leads_fifth else (if id == 3 then opened 3 5 5 (first_entry five ∷ noop_of 2 ∷ []) else core_at id);
  sent = record { from = 3; to = 5; message = Appended 5 false 1 0 } ∷ [];
}

abbrev pub overwritten : List GroupEvent
overwritten = Step 5 (SentSpur 0) ∷ Step 3 (SentSpur 1) ∷ []

abbrev pub IsOverwritten : Type 0
IsOverwritten = (((run_from fourth_moment overwritten).core 3).log ≡ first_entry five ∷ noop_of 3 ∷ noop_of 5 ∷ [])
    × ((run_from fourth_moment overwritten).decided ≡ [])

-- A deposed leader's round. The first leads three, all of whom have all, and begins a round (messages 0 and 1). Then the
-- second is elected by the third (2 and 3 ask, 4 is the vote) and leads term 2. The third answers the round's Append in
-- term 2 (7, behind the new leader's Appends 5 and 6), and the first learns of that term: its round is never confirmed.
abbrev pub deposed : List GroupEvent
deposed = Step 1 Confirm ∷ Step 2 Elect ∷ Step 3 (SentSpur 3) ∷ Step 2 (SentSpur 4) ∷ Step 3 (SentSpur 1) ∷ Step 1 (SentSpur 7) ∷ []

abbrev pub IsDeposed : Type 0
IsDeposed = (((run_from ready deposed).core 2).role ≡ Leader) × (((run_from ready deposed).core 1).role ≡ Follower) × (confirmed_of ((run_from ready deposed).core 1) ≡ 0)

-- And where that answer doesn't come, it leads on, with its round open.
abbrev pub waiting : List GroupEvent
waiting = Step 1 Confirm ∷ Step 2 Elect ∷ Step 3 (SentSpur 3) ∷ Step 2 (SentSpur 4) ∷ Step 3 (SentSpur 1) ∷ []

abbrev pub IsWaiting : Type 0
IsWaiting = (((run_from ready waiting).core 1).role ≡ Leader) × (((run_from ready waiting).core 1).round ≡ 1) × (confirmed_of ((run_from ready waiting).core 1) ≡ 0)
