-- What a group makes of what an input asks of one of its replicas.
use Rattle.std.proofs.Common.{◌≡◌, ◌≢◌, ℕ, ◌≤◌, List, [], ◌∷◌, ◌++◌, length, take, drop, map, Bool, true, false, cond, refl, ap, sym, subst, ◌∙◌, arith, append_assoc, append-nil}
use Rattle.std.specs.Prelude.{◌&&◌, nat_lt}
use Rattle.std.proofs.lemmas.Bool.{cond_both, cond-true, and_parts, ltb-true}
use Rattle.std.proofs.lemmas.List.{map-append, length-map}
use Rattle.raft_log.specs.declared.config.Config.{Config}
use Rattle.raft_log.specs.declared.entry.Entry.{Entry}
use Rattle.raft_log.specs.Majority.{is_among}
use Rattle.raft_core.specs.declared.input.RaftInput.{RaftInput}
use Rattle.raft_core.specs.declared.input.RaftInput.TheVariants.{Confirm}
use Rattle.raft_core.specs.Core.{Core, is_leading}
use Rattle.raft_core.specs.Step.{stepped as raft_stepped}
use Rattle.raft_group.specs.declared.event.GroupEvent.{GroupEvent}
use Rattle.raft_group.specs.declared.event.GroupEvent.TheVariants.{Step, StepCrash, Crash}
use Rattle.raft_group.specs.declared.sent.Sent.{Sent}
use Rattle.raft_group.specs.Group.{Group, core_set, sent_by, decided_after, with_step, with_stop, with_crash, took, stopped, after as group_after, run}
use Rattle.raft_group.specs.Facts.{GroupFacts}
use Rattle.raft_group.specs.Invariant.{IsFirst}
use Rattle.raft_group.proofs.Runs.{runs_on}
use Rattle.raft_group.proofs.Safety.{safe_always}
use Rattle.part_keys.specs.declared.proposal.Proposal.{Proposal}
use Rattle.chain_world.specs.Ledger.{Ledger, decides}
use Rattle.replica_model.specs.declared.input.Input.{Input}
use Rattle.replica_model.specs.Spelling.{values_of, valued}
use Rattle.replica_model.specs.Replica.{Home, Replica}
use Rattle.replica_model.specs.Asks.{Asks, Nothing, Refuses, Points, Leads, Raft, Reads}
use Rattle.replica_model.specs.Stepped.{does}
use Rattle.world_model.specs.State.{Space}
use Rattle.world_model.specs.After.{decides_all, passes, ledger_behind}
use Rattle.world_model.specs.Grouped.{Has}
use Rattle.world_model.proofs.Lists.{has_left, set_at, set_off}
use Rattle.world_model.proofs.Asking.{HasSpur, MayAsk}

-- the group behind a step, whole or stopped behind its record
abbrev pub group_behind : Group → ℕ → Asks → Group
group_behind g y (Raft i lead sender) = with_step g y (raft_stepped (g.core y) i)
group_behind g y (Reads id query) = with_step g y (raft_stepped (g.core y) Confirm)
group_behind g y Nothing = g
group_behind g y (Refuses from other) = g
group_behind g y (Points v hint) = g
group_behind g y (Leads tk) = g

abbrev pub stop_behind : Group → ℕ → Asks → Group
stop_behind g y (Raft i lead sender) = with_stop g y (raft_stepped (g.core y) i)
stop_behind g y (Reads id query) = with_stop g y (raft_stepped (g.core y) Confirm)
stop_behind g y Nothing = with_crash g y
stop_behind g y (Refuses from other) = with_crash g y
stop_behind g y (Points v hint) = with_crash g y
stop_behind g y (Leads tk) = with_crash g y

-- the peer behind it
abbrev pub core_behind : Core → Asks → Core
core_behind c (Raft i lead sender) = (raft_stepped c i).core
core_behind c (Reads id query) = (raft_stepped c Confirm).core
core_behind c Nothing = c
core_behind c (Refuses from other) = c
core_behind c (Points v hint) = c
core_behind c (Leads tk) = c

-- it is what some events lead to
abbrev pub IsReached : Config → Group → Type 0
IsReached first g = (events : List GroupEvent) × (run first events ≡ g)

pub next_reached : (first : Config) (g : Group) (e : GroupEvent) → IsReached first g → IsReached first (group_after g e)
next_reached first g e r = (r.0 ++ e ∷ [], runs_on first r.0 e ∙ ap (λ h. group_after h e) r.1)

pub facts_of : (first : Config) (g : Group) → IsFirst first → IsReached first g → GroupFacts g
facts_of first g is r = subst GroupFacts r.1 (safe_always first is r.0)

pub was_reached : (first : Config) (g : Group) (events : List GroupEvent) → run first events ≡ g → IsReached first g
was_reached first g events is = (events, is)

pub as_reached : (first : Config) (g : Group) → IsReached first g → (events : List GroupEvent) × (run first events ≡ g)
as_reached first g r = r

module _ (g : Group) (y : ℕ) (member : is_among y g.members ≡ true) where
  took_step : (i : RaftInput) (s : HasSpur g y i) → group_after g (Step y s.0) ≡ with_step g y (raft_stepped (g.core y) i)
  took_step i s = cond-true (is_among y g.members) (took g y _) g member ∙ ap (took g y) s.1

  took_stop : (i : RaftInput) (s : HasSpur g y i) → group_after g (StepCrash y s.0 true) ≡ with_stop g y (raft_stepped (g.core y) i)
  took_stop i s = cond-true (is_among y g.members) (stopped g y _ true) g member ∙ ap (λ o. stopped g y o true) s.1

  took_crash : group_after g (Crash y) ≡ with_crash g y
  took_crash = cond-true (is_among y g.members) (with_crash g y) g member

  module _ (first : Config) (r : IsReached first g) where
    by_step : (i : RaftInput) (s : HasSpur g y i) → IsReached first (with_step g y (raft_stepped (g.core y) i))
    by_step i s = subst (IsReached first) (took_step i s) (next_reached first g (Step y s.0) r)

    by_stop : (i : RaftInput) (s : HasSpur g y i) → IsReached first (with_stop g y (raft_stepped (g.core y) i))
    by_stop i s = subst (IsReached first) (took_stop i s) (next_reached first g (StepCrash y s.0 true) r)

    pub by_crash : IsReached first (with_crash g y)
    by_crash = subst (IsReached first) took_crash (next_reached first g (Crash y) r)

    -- what a replica does is an event of its group, or none
    pub step_in_group : (a : Asks) → MayAsk g y a → IsReached first (group_behind g y a)
    step_in_group (Raft i lead sender) may = by_step i may
    step_in_group (Reads id query) may = by_step Confirm may
    step_in_group Nothing may = r
    step_in_group (Refuses from other) may = r
    step_in_group (Points v hint) may = r
    step_in_group (Leads tk) may = r

    pub stop_in_group : (a : Asks) → MayAsk g y a → IsReached first (stop_behind g y a)
    stop_in_group (Raft i lead sender) may = by_stop i may
    stop_in_group (Reads id query) may = by_stop Confirm may
    stop_in_group Nothing may = by_crash
    stop_in_group (Refuses from other) may = by_crash
    stop_in_group (Points v hint) may = by_crash
    stop_in_group (Leads tk) may = by_crash

-- the replica behind it is its peer
pub does_core : (home : Home) (r : Replica) (i : Input) (a : Asks) → (does home r i a).replica.core ≡ core_behind r.core a
does_core home r i (Raft asked lead sender) = refl
does_core home r i (Reads id query) = refl
does_core home r i Nothing = refl
does_core home r i (Refuses from other) = refl
does_core home r i (Points v hint) = refl
does_core home r i (Leads tk) = refl

pub group_core : (g : Group) (y : ℕ) (a : Asks) → (group_behind g y a).core y ≡ core_behind (g.core y) a
group_core g y (Raft i lead sender) = set_at g.core y (raft_stepped (g.core y) i).core
group_core g y (Reads id query) = set_at g.core y (raft_stepped (g.core y) Confirm).core
group_core g y Nothing = refl
group_core g y (Refuses from other) = refl
group_core g y (Points v hint) = refl
group_core g y (Leads tk) = refl

-- What a group event at one peer leaves of the others.
pub record GoesOn (g h : Group) (y : ℕ) : Type 0 where
  pub core : (z : ℕ) → z ≢ y → h.core z ≡ g.core z
  pub members : (z : ℕ) → z ≢ y → is_among z h.members ≡ is_among z g.members
  pub placed : (z : ℕ) → z ≢ y → is_among z h.placed ≡ is_among z g.placed
  pub sent : (s : Sent) → Has g.sent s → Has h.sent s

pub goes_still : (g : Group) (y : ℕ) → GoesOn g g y
goes_still g y = record { core = λ z other. refl; members = λ z other. refl; placed = λ z other. refl; sent = λ s h. h }

step_goes : (g : Group) (y : ℕ) (i : RaftInput) → GoesOn g (with_step g y (raft_stepped (g.core y) i)) y
step_goes g y i = record {
  core = λ z other. set_off g.core y z (raft_stepped (g.core y) i).core other;
  members = λ z other. refl;
  placed = λ z other. refl;
  sent = λ s h. has_left g.sent (map (sent_by y) (raft_stepped (g.core y) i).sends) s h;
}

pub goes_on : (g : Group) (y : ℕ) (a : Asks) → GoesOn g (group_behind g y a) y
goes_on g y (Raft i lead sender) = step_goes g y i
goes_on g y (Reads id query) = step_goes g y Confirm
goes_on g y Nothing = goes_still g y
goes_on g y (Refuses from other) = goes_still g y
goes_on g y (Points v hint) = goes_still g y
goes_on g y (Leads tk) = goes_still g y

set_goes : (g h : Group) (y : ℕ) (c : Core) → h.core ≡ core_set g.core y c → h.members ≡ g.members → h.placed ≡ g.placed → h.sent ≡ g.sent → GoesOn g h y
set_goes g h y c core members placed sent = record {
  core = λ z other. ap (λ f. f z) core ∙ set_off g.core y z c other;
  members = λ z other. ap (is_among z) members;
  placed = λ z other. ap (is_among z) placed;
  sent = λ s has. subst (λ xs. Has xs s) (sym sent) has;
}

pub crash_goes : (g : Group) (y : ℕ) → GoesOn g (with_crash g y) y
crash_goes g y = set_goes g (with_crash g y) y _ refl refl refl refl

pub stop_goes : (g : Group) (y : ℕ) (a : Asks) → GoesOn g (stop_behind g y a) y
stop_goes g y (Raft i lead sender) = set_goes g (with_stop g y (raft_stepped (g.core y) i)) y _ refl refl refl refl
stop_goes g y (Reads id query) = set_goes g (with_stop g y (raft_stepped (g.core y) Confirm)) y _ refl refl refl refl
stop_goes g y Nothing = crash_goes g y
stop_goes g y (Refuses from other) = crash_goes g y
stop_goes g y (Points v hint) = crash_goes g y
stop_goes g y (Leads tk) = crash_goes g y

-- it stays a member
pub step_member : (g : Group) (y : ℕ) (a : Asks) → (group_behind g y a).members ≡ g.members
step_member g y (Raft i lead sender) = refl
step_member g y (Reads id query) = refl
step_member g y Nothing = refl
step_member g y (Refuses from other) = refl
step_member g y (Points v hint) = refl
step_member g y (Leads tk) = refl

pub stop_member : (g : Group) (y : ℕ) (a : Asks) → ((stop_behind g y a).members ≡ g.members) × ((stop_behind g y a).decided ≡ g.decided)
stop_member g y (Raft i lead sender) = (refl, refl)
stop_member g y (Reads id query) = (refl, refl)
stop_member g y Nothing = (refl, refl)
stop_member g y (Refuses from other) = (refl, refl)
stop_member g y (Points v hint) = (refl, refl)
stop_member g y (Leads tk) = (refl, refl)

-- A ledger decides as the group does.
module _ (parts : ℕ) (p : ℕ) where
  pub list_here : (l : Ledger) (ds : List (ℕ × Proposal)) → (decides_all parts l p ds).decided p ≡ l.decided p ++ ds
  list_here l [] = sym (append-nil (l.decided p))
  list_here l (d ∷ ds) =
      list_here (decides parts l p d) ds ∙ ap (λ xs. xs ++ ds) (set_at l.decided p (l.decided p ++ d ∷ [])) ∙ append_assoc (l.decided p) (d ∷ []) ds

  pub list_there : (l : Ledger) (ds : List (ℕ × Proposal)) (q : ℕ) → q ≢ p → (decides_all parts l p ds).decided q ≡ l.decided q
  list_there l [] q other = refl
  list_there l (d ∷ ds) q other = list_there (decides parts l p d) ds q other ∙ set_off l.decided p q (l.decided p ++ d ∷ []) other

module _ (sp : Space) (l : Ledger) (p : ℕ) where
  pub others_decide : (core : Core) (q : ℕ) → q ≢ p → (ledger_behind sp l p core).decided q ≡ l.decided q
  others_decide core q other = cond_both (passes l p core) _ l (λ (m : Ledger). m.decided q ≡ l.decided q) (λ yes. list_there sp.parts p l (values_of sp.spelling (drop (length (l.decided p)) (take core.commit core.log))) q other) (λ no. refl)

  module _ (decided : List Entry) (same : l.decided p ≡ values_of sp.spelling decided) where
    same_length : length (l.decided p) ≡ length decided
    same_length = ap length same ∙ length-map decided (valued sp.spelling)

    adds : (log : List Entry) (n : ℕ) (b : Bool) → (cond b (decides_all sp.parts l p (values_of sp.spelling (drop n log))) l).decided p ≡ values_of sp.spelling (cond b (decided ++ drop n log) decided)
    adds log n true = list_here sp.parts p l _ ∙ ap (λ xs. xs ++ values_of sp.spelling (drop n log)) same ∙ sym (map-append (valued sp.spelling) decided (drop n log))
    adds log n false = same

    pub decided_grows : (core : Core) → (ledger_behind sp l p core).decided p ≡ values_of sp.spelling (decided_after decided core)
    decided_grows core =
        let log = take core.commit core.log in
        subst (λ n. (cond (is_leading core.role && nat_lt n core.commit) (decides_all sp.parts l p (values_of sp.spelling (drop n log))) l).decided p ≡ values_of sp.spelling (decided_after decided core))
        (sym same_length) (adds log (length decided) (is_leading core.role && nat_lt (length decided) core.commit))

    -- a peer whose commit was decided decides nothing
    decides_no_more : (core : Core) → core.commit ≤ length decided → decided_after decided core ≡ decided
    decides_no_more core within = cond_both (is_leading core.role && nat_lt (length decided) core.commit) _ decided (λ xs. xs ≡ decided)
        (λ yes. absurd (let a = ltb-true (length decided) core.commit (and_parts (is_leading core.role) (nat_lt (length decided) core.commit) yes).1 in omega arith))
        (λ no. refl)

    pub decided_still : (core : Core) → core.commit ≤ length decided → (ledger_behind sp l p core).decided p ≡ values_of sp.spelling decided
    decided_still core within = decided_grows core ∙ ap (values_of sp.spelling) (decides_no_more core within)

pub list_grows : (sp : Space) (l : Ledger) (p : ℕ) (g : Group) (y : ℕ) (a : Asks) → l.decided p ≡ values_of sp.spelling g.decided → (g.core y).commit ≤ length g.decided
    → (ledger_behind sp l p (core_behind (g.core y) a)).decided p ≡ values_of sp.spelling (group_behind g y a).decided
list_grows sp l p g y (Raft i lead sender) same within = decided_grows sp l p g.decided same (raft_stepped (g.core y) i).core
list_grows sp l p g y (Reads id query) same within = decided_grows sp l p g.decided same (raft_stepped (g.core y) Confirm).core
list_grows sp l p g y Nothing same within = decided_still sp l p g.decided same (g.core y) within
list_grows sp l p g y (Refuses from other) same within = decided_still sp l p g.decided same (g.core y) within
list_grows sp l p g y (Points v hint) same within = decided_still sp l p g.decided same (g.core y) within
list_grows sp l p g y (Leads tk) same within = decided_still sp l p g.decided same (g.core y) within
