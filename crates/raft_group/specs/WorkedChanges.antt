-- Events with changing members and rounds worked by hand, as tests of the definitions: each from a group of which every
-- peer has all, with peer 1 leading term 1.
use Rattle.std.specs.Prelude.{◌≡◌, ℕ, ◌+◌, ◌==◌, List, [], ◌∷◌, length, true, false, if◌then◌else◌}
use Rattle.raft_log.specs.declared.config.Config.{Config}
use Rattle.raft_log.specs.declared.entry.Entry.{Entry}
use Rattle.raft_log.specs.declared.entry.Item.TheVariants.{Members}
use Rattle.raft_log.specs.declared.role.Role.TheVariants.{Follower, Leader}
use Rattle.member_change.specs.declared.change.Change.TheVariants.{AddLearner, Promote, Remove}
use Rattle.raft_core.specs.Core.{Core, opened}
use Rattle.raft_core.specs.declared.progress.Row.{Row}
use Rattle.raft_core.specs.Rounds.{confirmed_of}
use Rattle.raft_group.specs.declared.event.Spur.TheVariants.{Sent as SentSpur, Elect, Transfer, Change, Confirm}
use Rattle.raft_group.specs.declared.event.GroupEvent.{GroupEvent}
use Rattle.raft_group.specs.declared.event.GroupEvent.TheVariants.{Step, StepCrash, Place, Wipe}
use Rattle.raft_group.specs.Group.{Group, blank, first_entry, founding, run_from, run}
use Rattle.raft_group.specs.Worked.{three, noop_of, elected}

abbrev pub changed_to : Config → Entry
changed_to config = record { term = 1; item = Members config }

abbrev pub learning : Config
learning = record { voters = 1 ∷ 2 ∷ 3 ∷ []; learners = 4 ∷ [] }

abbrev pub four : Config
four = record { voters = 1 ∷ 2 ∷ 3 ∷ 4 ∷ []; learners = [] }

abbrev pub rest : Config
rest = record { voters = 1 ∷ 2 ∷ 4 ∷ []; learners = [] }

-- a row of a member that has the whole log and was told so
abbrev pub has_all : ℕ → ℕ → Row
has_all last peer = record { peer = peer; progress = record { next = last + 1; matched = last; in_flight = false; told = last; confirmed = 0 } }

abbrev pub leads : List Entry → List Row → Core
leads log rows = record (opened 1 1 1 log) { role = Leader; commit = length log; noop = 2; rows = rows }

abbrev pub follows : List Entry → ℕ → Core
follows log id = record (opened id 1 1 log) { commit = length log; hint = 1; heard = true }

-- the peers 1 to n that have this log, decided whole
abbrev pub group_of : List ℕ → List Entry → List Row → Group
group_of ids log rows = record {
  first = three;
  members = ids;
  placed = ids;
  core = λ id. if id == 1 then leads log rows else (if id == length ids + 1 then blank id else follows log id);
  sent = [];
  decided = log;
  leaders = founding three ∷ [];
  rounds = [];
}

abbrev pub ready : Group
ready = group_of (1 ∷ 2 ∷ 3 ∷ []) (first_entry three ∷ noop_of 1 ∷ []) (has_all 2 2 ∷ has_all 2 3 ∷ [])

-- Peer 4 is placed, and the leader adds it as a learner. Messages 0, 1 and 2 go to 2, 3 and 4, which can't follow it, as 3
-- says; 4 is the whole log, 5 its answer, 6 that of 2, with which the configuration is decided.
abbrev pub learner : List GroupEvent
learner = Place 4 ∷ Step 1 (Change (AddLearner 4)) ∷ Step 4 (SentSpur 2) ∷ Step 1 (SentSpur 3) ∷ Step 4 (SentSpur 4) ∷ Step 1 (SentSpur 5)
    ∷ Step 2 (SentSpur 0) ∷ Step 1 (SentSpur 6) ∷ []

pub record IsLearnerIn : Type 0 where
  pub members : (run_from ready learner).members ≡ 1 ∷ 2 ∷ 3 ∷ 4 ∷ []
  pub log : ((run_from ready learner).core 4).log ≡ first_entry three ∷ noop_of 1 ∷ changed_to learning ∷ []
  pub decided : (run_from ready learner).decided ≡ first_entry three ∷ noop_of 1 ∷ changed_to learning ∷ []

-- A learner doesn't stand, and isn't asked to lead.
abbrev pub with_learner : Group
with_learner = group_of (1 ∷ 2 ∷ 3 ∷ 4 ∷ []) (first_entry three ∷ noop_of 1 ∷ changed_to learning ∷ []) (has_all 3 2 ∷ has_all 3 3 ∷ has_all 3 4 ∷ [])

pub record IsNoVoter : Type 0 where
  pub stays : ((run_from with_learner (Step 4 Elect ∷ [])).core 4).role ≡ Follower
  pub not_asked : (run_from with_learner (Step 1 (Transfer 4) ∷ [])).sent ≡ []

-- It votes from now on: two of the four voters don't decide, three do. While the change is open, no other one is made.
abbrev pub promoting : List GroupEvent
promoting = Step 1 (Change (Promote 4)) ∷ Step 2 (SentSpur 0) ∷ Step 1 (SentSpur 3) ∷ []

abbrev pub promoted : List GroupEvent
promoted = Step 1 (Change (Promote 4)) ∷ Step 2 (SentSpur 0) ∷ Step 1 (SentSpur 3) ∷ Step 4 (SentSpur 2) ∷ Step 1 (SentSpur 4) ∷ []

pub record IsPromoted : Type 0 where
  pub not_by_two : (run_from with_learner promoting).decided ≡ first_entry three ∷ noop_of 1 ∷ changed_to learning ∷ []
  pub by_three : (run_from with_learner promoted).decided ≡ first_entry three ∷ noop_of 1 ∷ changed_to learning ∷ changed_to four ∷ []
  pub one_at_a_time : ((run_from with_learner (Step 1 (Change (Promote 4)) ∷ Step 1 (Change (Remove 3)) ∷ [])).core 1).log
      ≡ first_entry three ∷ noop_of 1 ∷ changed_to learning ∷ changed_to four ∷ []

-- A voter is taken out: two of the three that are left decide it. Then it may be wiped, and not before; and it never comes
-- back.
abbrev pub with_four : Group
with_four = group_of (1 ∷ 2 ∷ 3 ∷ 4 ∷ []) (first_entry three ∷ noop_of 1 ∷ changed_to four ∷ []) (has_all 3 2 ∷ has_all 3 3 ∷ has_all 3 4 ∷ [])

abbrev pub with_rest : Group
with_rest = group_of (1 ∷ 2 ∷ 3 ∷ 4 ∷ []) (first_entry three ∷ noop_of 1 ∷ changed_to four ∷ changed_to rest ∷ []) (has_all 4 2 ∷ has_all 4 4 ∷ [])

pub record IsRemoved : Type 0 where
  pub decided : (run_from with_four (Step 1 (Change (Remove 3)) ∷ Step 2 (SentSpur 0) ∷ Step 1 (SentSpur 2) ∷ [])).decided
      ≡ first_entry three ∷ noop_of 1 ∷ changed_to four ∷ changed_to rest ∷ []
  pub not_before : (run_from with_four (Wipe 3 ∷ [])).members ≡ 1 ∷ 2 ∷ 3 ∷ 4 ∷ []
  pub then_wiped : (run_from with_rest (Wipe 3 ∷ [])).members ≡ 1 ∷ 2 ∷ 4 ∷ []
  pub never_again : (run_from with_rest (Wipe 3 ∷ Place 3 ∷ [])).members ≡ 1 ∷ 2 ∷ 4 ∷ []
  pub silent : (run_from with_rest (Wipe 3 ∷ Step 3 Elect ∷ [])).sent ≡ []

-- Rounds. The leader begins one, when two entries are decided; 0 asks 2 for it, and with 2 two of three have confirmed it.
pub record IsConfirmed : Type 0 where
  pub began : (run_from ready (Step 1 Confirm ∷ [])).rounds ≡ record { term = 1; round = 1; ready = true; commit = 2; decided = 2 } ∷ []
  pub not_yet : confirmed_of ((run_from ready (Step 1 Confirm ∷ Step 2 (SentSpur 0) ∷ [])).core 1) ≡ 0
  pub confirmed : confirmed_of ((run_from ready (Step 1 Confirm ∷ Step 2 (SentSpur 0) ∷ Step 1 (SentSpur 2) ∷ [])).core 1) ≡ 1
  -- a round that was stopped never began; a leader that isn't ready may begin one, which is told
  pub stopped : (run_from ready (StepCrash 1 Confirm true ∷ [])).rounds ≡ []
  pub unready : (run_from (run three elected) (Step 1 Confirm ∷ [])).rounds ≡ record { term = 1; round = 1; ready = false; commit = 0; decided = 0 } ∷ []
