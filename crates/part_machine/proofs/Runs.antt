-- Entries that are played one after another, and taken back.
use Rattle.std.proofs.Common.{◌≡◌, inl, inr, ℕ, suc, List, [], ◌∷◌, ◌++◌, Option, None, Some, Bool, true, refl, ap, sym, subst, ◌∙◌}
use Rattle.std.specs.FinMap.{get}
use Rattle.std.specs.Ordering.{nat_cmp}
use Rattle.kv_part.specs.Store.{Contents, HasPlaces, key_of, written}
use Rattle.kv_part.specs.declared.batch.Write.{Write}
use Rattle.kv_part.proofs.Writes.{places_stay}
use Rattle.maps.specs.Maps.{with_at}
use Rattle.maps.specs.Places.{has_place}
use Rattle.maps.proofs.Keys.{nat_keys, same_or_apart}
use Rattle.maps.proofs.Updates.{same_by_keys, with_at_here, with_at_apart}
use Rattle.part_keys.specs.declared.chain.PrimeRec.{PrimeRec}
use Rattle.part_keys.specs.declared.entry.PartEntry.{PartEntry}
use Rattle.part_rules.specs.Part.{Part}
use Rattle.part_rules.specs.Machine.{applied}
use Rattle.part_store.specs.declared.setting.Setting.{Setting}
use Rattle.part_machine.specs.Chains.{Chains, standing, turned, turn_back}
use Rattle.part_machine.specs.Placed.{HasTurnPlace}
use Rattle.part_machine.specs.Plans.{IsState, IsNext, IsPlan, ArePlans, IsPlaced, ArePlaced}
use Rattle.part_machine.specs.Playing.{behind, undone, returned, IsBackPlaced, AreBacksPlaced, KeepsPlaces, IsPlayed, IsUnplayed, written_by, turned_by, next_by, IsRun}
use Rattle.part_machine.specs.Undone.{giving, backs}
use Rattle.part_machine.specs.declared.back.Back.{Back}
use Rattle.part_machine.specs.declared.machine.Machine.{Machine}
use Rattle.part_machine.specs.declared.plan.Plan.{Plan}
use Rattle.part_machine.specs.declared.turn.Turn.{Turn}
use Rattle.part_machine.proofs.TakenBack.{taken_back}

-- ---- places

pub turn_stays : (places later : List (ℕ × Option PrimeRec)) (turn : Option Turn) → ((q : ℕ) → has_place nat_cmp places q ≡ true → has_place nat_cmp later q ≡ true) → HasTurnPlace places turn → HasTurnPlace later turn
turn_stays places later None kept here = tt
turn_stays places later (Some turn) kept here = kept turn.at here

module _ {has now : List ℕ → Bool} {places later : List (ℕ × Option PrimeRec)} (kept : KeepsPlaces has now places later) where
  pub placed_stay : (plans : List Plan) → ArePlaced has places plans → ArePlaced now later plans
  placed_stay [] all = tt
  placed_stay (plan ∷ plans) all = (record { writes = places_stay has now plan.batch kept.writes all.0.writes; turn = turn_stays places later plan.turn kept.turns all.0.turn }, placed_stay plans all.1)

  pub backs_stay : (list : List Back) → AreBacksPlaced has places list → AreBacksPlaced now later list
  backs_stay [] all = tt
  backs_stay (back ∷ list) all = (record { writes = places_stay has now back.batch kept.writes all.0.writes; turn = turn_stays places later back.turn kept.turns all.0.turn }, backs_stay list all.1)

placed_more : (has : List ℕ → Bool) (places : List (ℕ × Option PrimeRec)) (plans : List Plan) (plan : Plan) → ArePlaced has places plans → IsPlaced has places plan → ArePlaced has places (plans ++ plan ∷ [])
placed_more has places [] plan all one = (one, tt)
placed_more has places (x ∷ plans) plan all one = (all.0, placed_more has places plans plan all.1 one)

backs_more : (has : List ℕ → Bool) (places : List (ℕ × Option PrimeRec)) (list : List Back) (back : Back) → AreBacksPlaced has places list → IsBackPlaced has places back → AreBacksPlaced has places (list ++ back ∷ [])
backs_more has places [] back all one = (one, tt)
backs_more has places (x ∷ list) back all one = (all.0, backs_more has places list back all.1 one)

-- of those that take back, the last one and the others
pub backs_split : (has : List ℕ → Bool) (places : List (ℕ × Option PrimeRec)) (list : List Back) (back : Back) → AreBacksPlaced has places (list ++ back ∷ []) → AreBacksPlaced has places list × IsBackPlaced has places back
backs_split has places [] back all = (tt, all.0)
backs_split has places (x ∷ list) back all = let rest = backs_split has places list back all.1 in ((all.0, rest.0), rest.1)

-- ---- behind one more

pub undone_more : (m : Contents) (list : List Back) (back : Back) → undone m (list ++ back ∷ []) ≡ undone (written m back.batch) list
undone_more m [] back = refl
undone_more m (x ∷ list) back = ap (λ (n : Contents). written n x.batch) (undone_more m list back)

pub returned_more : (chains : Chains) (list : List Back) (back : Back) → returned chains (list ++ back ∷ []) ≡ returned (turned chains back.turn) list
returned_more chains [] back = refl
returned_more chains (x ∷ list) back = ap (λ (c : Chains). turned c x.turn) (returned_more chains list back)

written_by_more : (m : Contents) (plans : List Plan) (plan : Plan) → written_by m (plans ++ plan ∷ []) ≡ written (written_by m plans) plan.batch
written_by_more m [] plan = refl
written_by_more m (x ∷ plans) plan = written_by_more (written m x.batch) plans plan

turned_by_more : (chains : Chains) (plans : List Plan) (plan : Plan) → turned_by chains (plans ++ plan ∷ []) ≡ turned (turned_by chains plans) plan.turn
turned_by_more chains [] plan = refl
turned_by_more chains (x ∷ plans) plan = turned_by_more (turned chains x.turn) plans plan

next_by_more : (next : ℕ) (entries : List (ℕ × PartEntry)) (x : ℕ × PartEntry) → next_by next (entries ++ x ∷ []) ≡ suc x.0
next_by_more next [] x = refl
next_by_more next (y ∷ entries) x = next_by_more (suc y.0) entries x

-- a turn that is taken back
turn_returned : (chains : Chains) (turn : Option Turn) → turned (turned chains turn) (turn_back chains turn) ≡ chains
turn_returned chains None = refl
turn_returned chains (Some turn) = same_by_keys nat_keys _ _ (λ q. elim (same_or_apart nat_keys q turn.at) as (λ _. get (with_at (with_at chains turn.at turn.chain) turn.at (get chains turn.at)) q ≡ get chains q) [
  | inl same ↦ ap (get (with_at (with_at chains turn.at turn.chain) turn.at (get chains turn.at))) same ∙ with_at_here nat_keys (with_at chains turn.at turn.chain) turn.at (get chains turn.at) ∙ ap (get chains) (sym same)
  | inr apart ↦ with_at_apart nat_keys (with_at chains turn.at turn.chain) turn.at (get chains turn.at) q apart ∙ with_at_apart nat_keys chains turn.at turn.chain q apart
])

-- ---- plans

-- the first plan, of the first entry
pub record First (s : Setting) (next : ℕ) (p : Part) (m : Contents) (chains : Chains) (plans : List Plan) (x : ℕ × PartEntry) (rest : List (ℕ × PartEntry)) : Type 0 where
  pub plan : Plan
  pub more : List Plan
  pub is : plans ≡ plan ∷ more
  pub risen : IsNext next x.0
  pub does : IsPlan s x.0 x.1 p m chains plan
  pub others : ArePlans s (suc x.0) (applied s.parts x.0 x.1 p).0 (written m plan.batch) (turned chains plan.turn) more rest

pub first_plan : (s : Setting) (next : ℕ) (p : Part) (m : Contents) (chains : Chains) (plans : List Plan) (x : ℕ × PartEntry) (rest : List (ℕ × PartEntry)) → ArePlans s next p m chains plans (x ∷ rest) → First s next p m chains plans x rest
first_plan s next p m chains [] x rest are = absurd are
first_plan s next p m chains (plan ∷ plans) x rest are = record { plan = plan; more = plans; is = refl; risen = are.0; does = are.1; others = are.2 }

module _ (s : Setting) where
  -- the state behind planned entries
  state_behind : (next : ℕ) (p : Part) (m : Contents) (chains : Chains) (plans : List Plan) (entries : List (ℕ × PartEntry)) → ArePlans s next p m chains plans entries → IsState s next p m chains
      → IsState s (next_by next entries) (behind s p entries) (written_by m plans) (turned_by chains plans)
  state_behind next p m chains [] [] are state = state
  state_behind next p m chains [] (x ∷ entries) are state = absurd are
  state_behind next p m chains (plan ∷ plans) [] are state = absurd are
  state_behind next p m chains (plan ∷ plans) (x ∷ entries) are state =
      state_behind (suc x.0) (applied s.parts x.0 x.1 p).0 (written m plan.batch) (turned chains plan.turn) plans entries are.2 are.1.state

  -- one more entry
  planned_more : (next : ℕ) (p : Part) (m : Contents) (chains : Chains) (plans : List Plan) (entries : List (ℕ × PartEntry)) (plan : Plan) (x : ℕ × PartEntry) → ArePlans s next p m chains plans entries
      → IsNext (next_by next entries) x.0 → IsPlan s x.0 x.1 (behind s p entries) (written_by m plans) (turned_by chains plans) plan
      → ArePlans s next p m chains (plans ++ plan ∷ []) (entries ++ x ∷ [])
  planned_more next p m chains [] [] plan x are risen does = (risen, does, tt)
  planned_more next p m chains [] (y ∷ entries) plan x are risen does = absurd are
  planned_more next p m chains (q ∷ plans) [] plan x are risen does = absurd are
  planned_more next p m chains (q ∷ plans) (y ∷ entries) plan x are risen does =
      (are.0, are.1, planned_more (suc y.0) (applied s.parts y.0 y.1 p).0 (written m q.batch) (turned chains q.turn) plans entries plan x are.2 risen does)

-- ---- runs

module _ {S : Type 0} (meaning : S → Contents) (has : S → List ℕ → Bool) where
  -- nothing was played yet
  pub run_starts : (a b : Machine S) → b.plans.items ≡ [] → b.store ≡ a.store → b.chains.entries ≡ a.chains.entries → b.next ≡ a.next → b.setting ≡ a.setting → IsRun meaning has a [] b []
  run_starts a b none store chains next setting = record {
    store = ap meaning store ∙ sym (ap (written_by (meaning a.store)) none);
    chains = ap standing chains ∙ sym (ap (turned_by (standing a.chains.entries)) none);
    next = next;
    setting = setting;
    plans = λ p state. subst (λ (l : List Plan). ArePlans a.setting a.next p (meaning a.store) (standing a.chains.entries) l []) (sym none) tt;
    placed = subst (ArePlaced (has b.store) b.chains.entries) (sym none) tt;
    undo = ap meaning store;
    back = ap standing chains;
    backs_placed = tt;
  }

  -- the state in which the next entry is played
  pub run_state : (a b : Machine S) (done : List (ℕ × PartEntry)) (list : List Back) → IsRun meaning has a done b list → (p : Part) → IsState a.setting a.next p (meaning a.store) (standing a.chains.entries)
      → IsState b.setting b.next (behind a.setting p done) (meaning b.store) (standing b.chains.entries)
  run_state a b done list run p state =
      subst (λ (s : Setting). IsState s b.next (behind a.setting p done) (meaning b.store) (standing b.chains.entries)) (sym run.setting)
      (subst (λ (n : ℕ). IsState a.setting n (behind a.setting p done) (meaning b.store) (standing b.chains.entries)) (sym run.next)
      (subst (λ (m : Contents). IsState a.setting (next_by a.next done) (behind a.setting p done) m (standing b.chains.entries)) (sym run.store)
      (subst (IsState a.setting (next_by a.next done) (behind a.setting p done) (written_by (meaning a.store) b.plans.items)) (sym run.chains)
      (state_behind a.setting a.next p (meaning a.store) (standing a.chains.entries) b.plans.items done (run.plans p state) state))))

  -- one more entry was played
  pub run_goes_on : (a b c : Machine S) (done : List (ℕ × PartEntry)) (list more : List Back) (index : ℕ) (entry : PartEntry) → IsRun meaning has a done b list → IsPlayed meaning has index entry b list c more → IsNext b.next index
      → IsRun meaning has a (done ++ (index, entry) ∷ []) c more
  run_goes_on a b c done list more index entry run played risen = record {
    store = played.store ∙ ap (λ (m : Contents). written m played.plan.batch) run.store ∙ sym (written_by_more (meaning a.store) b.plans.items played.plan) ∙ sym (ap (written_by (meaning a.store)) played.plans);
    chains = played.chains ∙ ap (λ (m : Chains). turned m played.plan.turn) run.chains ∙ sym (turned_by_more (standing a.chains.entries) b.plans.items played.plan) ∙ sym (ap (turned_by (standing a.chains.entries)) played.plans);
    next = played.next ∙ sym (next_by_more a.next done (index, entry));
    setting = played.setting ∙ run.setting;
    plans = λ p state. subst (λ (l : List Plan). ArePlans a.setting a.next p (meaning a.store) (standing a.chains.entries) l (done ++ (index, entry) ∷ [])) (sym played.plans)
        (planned_more a.setting a.next p (meaning a.store) (standing a.chains.entries) b.plans.items done played.plan (index, entry) (run.plans p state)
        (subst (λ (n : ℕ). IsNext n index) run.next risen)
        (subst (λ (s : Setting). IsPlan s index entry (behind a.setting p done) (written_by (meaning a.store) b.plans.items) (turned_by (standing a.chains.entries) b.plans.items) played.plan) run.setting
        (subst (λ (m : Contents). IsPlan b.setting index entry (behind a.setting p done) m (turned_by (standing a.chains.entries) b.plans.items) played.plan) run.store
        (subst (λ (m : Chains). IsPlan b.setting index entry (behind a.setting p done) (meaning b.store) m played.plan) run.chains
        (played.does (behind a.setting p done) (run_state a b done list run p state))))));
    placed = subst (ArePlaced (has c.store) c.chains.entries) (sym played.plans)
        (placed_more (has c.store) c.chains.entries b.plans.items played.plan (placed_stay played.kept b.plans.items run.placed) played.placed);
    undo = ap (undone (meaning c.store)) played.list_more ∙ undone_more (meaning c.store) list played.back
        ∙ ap (λ (ws : List Write). undone (written (meaning c.store) ws) list) played.writes
        ∙ ap (λ (m : Contents). undone (written m (backs (meaning b.store) played.plan.batch)) list) played.store
        ∙ ap (λ (m : Contents). undone m list) (taken_back (meaning b.store) played.plan.batch) ∙ run.undo;
    back = ap (returned (standing c.chains.entries)) played.list_more ∙ returned_more (standing c.chains.entries) list played.back
        ∙ ap (λ (t : Option Turn). returned (turned (standing c.chains.entries) t) list) played.turn
        ∙ ap (λ (m : Chains). returned (turned m (turn_back (standing b.chains.entries) played.plan.turn)) list) played.chains
        ∙ ap (λ (m : Chains). returned m list) (turn_returned (standing b.chains.entries) played.plan.turn) ∙ run.back;
    backs_placed = subst (AreBacksPlaced (has c.store) c.chains.entries) (sym played.list_more)
        (backs_more (has c.store) c.chains.entries list played.back (backs_stay played.kept list run.backs_placed) played.back_placed);
  }

  -- an entry wasn't played
  pub run_stays : (a b c : Machine S) (done : List (ℕ × PartEntry)) (list more : List Back) → IsRun meaning has a done b list → IsUnplayed meaning has b list c more → IsRun meaning has a done c more
  run_stays a b c done list more run same = record {
    store = same.store ∙ run.store ∙ sym (ap (written_by (meaning a.store)) same.plans);
    chains = same.chains ∙ run.chains ∙ sym (ap (turned_by (standing a.chains.entries)) same.plans);
    next = same.next ∙ run.next;
    setting = same.setting ∙ run.setting;
    plans = λ p state. subst (λ (l : List Plan). ArePlans a.setting a.next p (meaning a.store) (standing a.chains.entries) l done) (sym same.plans) (run.plans p state);
    placed = subst (ArePlaced (has c.store) c.chains.entries) (sym same.plans) (placed_stay same.kept b.plans.items run.placed);
    undo = ap (undone (meaning c.store)) same.list_same ∙ ap (λ (m : Contents). undone m list) same.store ∙ run.undo;
    back = ap (returned (standing c.chains.entries)) same.list_same ∙ ap (λ (m : Chains). returned m list) same.chains ∙ run.back;
    backs_placed = subst (AreBacksPlaced (has c.store) c.chains.entries) (sym same.list_same) (backs_stay same.kept list run.backs_placed);
  }

-- ---- places of what takes back

giving_key : (key : List ℕ) (o : Option (List ℕ)) → key_of (giving key o) ≡ key
giving_key key None = refl
giving_key key (Some value) = refl

-- the writes that take others back are at the same keys
pub backs_have_places : (has : List ℕ → Bool) (m : Contents) (ws : List Write) → HasPlaces has ws → HasPlaces has (backs m ws)
backs_have_places has m [] all = tt
backs_have_places has m (w ∷ ws) all = (ap has (giving_key (key_of w) (get m (key_of w))) ∙ all.0, backs_have_places has m ws all.1)

-- and so is the turn
pub back_turn_placed : (places : List (ℕ × Option PrimeRec)) (chains : Chains) (turn : Option Turn) → HasTurnPlace places turn → HasTurnPlace places (turn_back chains turn)
back_turn_placed places chains None here = tt
back_turn_placed places chains (Some turn) here = here
