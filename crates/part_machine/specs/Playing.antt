-- Entries that are played ahead, and taken back.
use Rattle.std.specs.Prelude.{◌≡◌, ℕ, suc, Bool, true, List, [], ◌∷◌, ◌++◌, Option}
use Rattle.std.specs.List.{AllByRecursion}
use Rattle.std.specs.Ordering.{nat_cmp}
use Rattle.kv_part.specs.Store.{Contents, HasPlaces, written}
use Rattle.maps.specs.Places.{has_place}
use Rattle.part_keys.specs.declared.chain.PrimeRec.{PrimeRec}
use Rattle.part_keys.specs.declared.entry.PartEntry.{PartEntry}
use Rattle.part_rules.specs.Part.{Part}
use Rattle.part_rules.specs.Machine.{applied}
use Rattle.part_store.specs.declared.setting.Setting.{Setting}
use Rattle.part_machine.specs.Chains.{Chains, standing, turned, turn_back}
use Rattle.part_machine.specs.Placed.{HasTurnPlace}
use Rattle.part_machine.specs.Plans.{IsState, IsNext, IsPlan, ArePlans, IsPlaced, ArePlaced}
use Rattle.part_machine.specs.Taken.{IsTaken}
use Rattle.part_machine.specs.Undone.{backs}
use Rattle.part_machine.specs.declared.back.Back.{Back}
use Rattle.part_machine.specs.declared.machine.Machine.{Machine}
use Rattle.part_machine.specs.declared.plan.Plan.{Plan}

-- the state behind placed entries
abbrev pub behind : Setting → Part → List (ℕ × PartEntry) → Part
behind s p [] = p
behind s p (x ∷ entries) = behind s (applied s.parts x.0 x.1 p).0 entries

-- entries that may be reserved: each at an index that isn't below the next one, and isn't the greatest number
abbrev pub AreTaken : Setting → ℕ → List (ℕ × PartEntry) → Type 0
AreTaken s next [] = Unit {0}
AreTaken s next (x ∷ entries) = IsNext next x.0 × IsTaken s x.1 × AreTaken s (suc x.0) entries

-- the map, and the chains, behind all that takes back, the last first
abbrev pub undone : Contents → List Back → Contents
undone m [] = m
undone m (back ∷ more) = written (undone m more) back.batch

abbrev pub returned : Chains → List Back → Chains
returned chains [] = chains
returned chains (back ∷ more) = turned (returned chains more) back.turn

-- there is a place for each write that takes back, and for the turn
pub record IsBackPlaced (has : List ℕ → Bool) (places : List (ℕ × Option PrimeRec)) (back : Back) : Type 0 where
  pub writes : HasPlaces has back.batch
  pub turn : HasTurnPlace places back.turn

abbrev pub AreBacksPlaced : (List ℕ → Bool) → List (ℕ × Option PrimeRec) → List Back → Type 0
AreBacksPlaced has places list = AllByRecursion (IsBackPlaced has places) list

-- each place that was there is there
pub record KeepsPlaces (has now : List ℕ → Bool) (places later : List (ℕ × Option PrimeRec)) : Type 0 where
  pub writes : (key : List ℕ) → has key ≡ true → now key ≡ true
  pub turns : (q : ℕ) → has_place nat_cmp places q ≡ true → has_place nat_cmp later q ≡ true

-- An entry was played: its plan and what takes it back stand behind the others, and the store and the chains are those
-- that the plan makes.
pub record IsPlayed {S : Type 0} (meaning : S → Contents) (has : S → List ℕ → Bool) (index : ℕ) (entry : PartEntry) (a : Machine S) (list : List Back) (b : Machine S) (more : List Back) : Type 0 where
  pub plan : Plan
  pub back : Back
  pub plans : b.plans.items ≡ a.plans.items ++ plan ∷ []
  pub list_more : more ≡ list ++ back ∷ []
  pub store : meaning b.store ≡ written (meaning a.store) plan.batch
  pub chains : standing b.chains.entries ≡ turned (standing a.chains.entries) plan.turn
  pub writes : back.batch ≡ backs (meaning a.store) plan.batch
  pub turn : back.turn ≡ turn_back (standing a.chains.entries) plan.turn
  pub placed : IsPlaced (has b.store) b.chains.entries plan
  pub back_placed : IsBackPlaced (has b.store) b.chains.entries back
  pub kept : KeepsPlaces (has a.store) (has b.store) a.chains.entries b.chains.entries
  pub next : b.next ≡ suc index
  pub setting : b.setting ≡ a.setting
  pub does : (p : Part) → IsState a.setting a.next p (meaning a.store) (standing a.chains.entries) → IsPlan a.setting index entry p (meaning a.store) (standing a.chains.entries) plan

-- an entry wasn't played: all is as it was, but for places
pub record IsUnplayed {S : Type 0} (meaning : S → Contents) (has : S → List ℕ → Bool) (a : Machine S) (list : List Back) (b : Machine S) (more : List Back) : Type 0 where
  pub plans : b.plans.items ≡ a.plans.items
  pub list_same : more ≡ list
  pub store : meaning b.store ≡ meaning a.store
  pub chains : standing b.chains.entries ≡ standing a.chains.entries
  pub kept : KeepsPlaces (has a.store) (has b.store) a.chains.entries b.chains.entries
  pub next : b.next ≡ a.next
  pub setting : b.setting ≡ a.setting

-- the map, and the chains, behind plans
abbrev pub written_by : Contents → List Plan → Contents
written_by m [] = m
written_by m (plan ∷ plans) = written_by (written m plan.batch) plans

abbrev pub turned_by : Chains → List Plan → Chains
turned_by chains [] = chains
turned_by chains (plan ∷ plans) = turned_by (turned chains plan.turn) plans

-- the next index behind placed entries
abbrev pub next_by : ℕ → List (ℕ × PartEntry) → ℕ
next_by next [] = next
next_by next (x ∷ entries) = next_by (suc x.0) entries

-- Entries were played one after another: the machine has a plan for each, and all can be taken back.
pub record IsRun {S : Type 0} (meaning : S → Contents) (has : S → List ℕ → Bool) (a : Machine S) (done : List (ℕ × PartEntry)) (b : Machine S) (list : List Back) : Type 0 where
  pub store : meaning b.store ≡ written_by (meaning a.store) b.plans.items
  pub chains : standing b.chains.entries ≡ turned_by (standing a.chains.entries) b.plans.items
  pub next : b.next ≡ next_by a.next done
  pub setting : b.setting ≡ a.setting
  pub plans : (p : Part) → IsState a.setting a.next p (meaning a.store) (standing a.chains.entries) → ArePlans a.setting a.next p (meaning a.store) (standing a.chains.entries) b.plans.items done
  pub placed : ArePlaced (has b.store) b.chains.entries b.plans.items
  pub undo : undone (meaning b.store) list ≡ meaning a.store
  pub back : returned (standing b.chains.entries) list ≡ standing a.chains.entries
  pub backs_placed : AreBacksPlaced (has b.store) b.chains.entries list
