-- What entries that are reserved do, made ahead.
use Rattle.std.specs.Prelude.{◌≡◌, ℕ, suc, ◌<◌, ◌≤◌, ◌-◌, ◌^◌, Bool, List, [], ◌∷◌, Option, Some}
use Rattle.std.specs.FinMap.{get}
use Rattle.std.specs.List.{AllByRecursion}
use Rattle.graph_bytes.specs.Fits.{IsSmall}
use Rattle.kv_part.specs.Store.{Contents, HasPlaces, written}
use Rattle.part_keys.specs.declared.chain.PrimeRec.{PrimeRec}
use Rattle.part_keys.specs.declared.entry.PartEntry.{PartEntry}
use Rattle.part_rules.specs.Part.{Part}
use Rattle.part_rules.specs.Machine.{applied}
use Rattle.part_store.specs.Keeps.{Keeps}
use Rattle.part_store.specs.Settings.{AreFrom}
use Rattle.part_store.specs.declared.setting.Setting.{Setting}
use Rattle.part_machine.specs.Chains.{Chains, turned}
use Rattle.part_machine.specs.Placed.{HasTurnPlace}
use Rattle.part_machine.specs.declared.plan.Plan.{Plan}

-- each chain is one of a small client, on edges that start in the part
pub record IsOwn (s : Setting) (chain : PrimeRec) : Type 0 where
  pub client : IsSmall chain.id.client
  pub list : AreFrom s chain.list

abbrev pub AreOwn : Setting → Chains → Type 0
AreOwn s chains = (v : ℕ) (chain : PrimeRec) → get chains v ≡ Some chain → IsOwn s chain

-- The store and the index keep the state: the index has its chains, whose numbers are below the next index.
pub record IsState (s : Setting) (next : ℕ) (p : Part) (m : Contents) (chains : Chains) : Type 0 where
  pub keeps : Keeps s p m
  pub same : chains ≡ p.chains
  pub own : AreOwn s chains
  pub below : (v : ℕ) (chain : PrimeRec) → get chains v ≡ Some chain → v < next

-- a plan of an entry at an index: its writes and its turn make what the table makes, and its answer is the table's
pub record IsPlan (s : Setting) (index : ℕ) (entry : PartEntry) (p : Part) (m : Contents) (chains : Chains) (plan : Plan) : Type 0 where
  pub state : IsState s (suc index) (applied s.parts index entry p).0 (written m plan.batch) (turned chains plan.turn)
  pub answer : plan.answer ≡ (applied s.parts index entry p).1

-- an index may be the next one: it isn't below it, and isn't the greatest number
pub record IsNext (next index : ℕ) : Type 0 where
  pub risen : next ≤ index
  pub small : index < 2 ^ 64 - 1

-- plans of entries, each in the state that the one before leaves
abbrev pub ArePlans : Setting → ℕ → Part → Contents → Chains → List Plan → List (ℕ × PartEntry) → Type 0
ArePlans s next p m chains [] [] = Unit {0}
ArePlans s next p m chains [] (x ∷ entries) = ⊥
ArePlans s next p m chains (plan ∷ plans) [] = ⊥
ArePlans s next p m chains (plan ∷ plans) (x ∷ entries) =
    IsNext next x.0 × IsPlan s x.0 x.1 p m chains plan
    × ArePlans s (suc x.0) (applied s.parts x.0 x.1 p).0 (written m plan.batch) (turned chains plan.turn) plans entries

-- there is a place for each write of a plan, and for its turn
pub record IsPlaced (has_place : List ℕ → Bool) (places : List (ℕ × Option PrimeRec)) (plan : Plan) : Type 0 where
  pub writes : HasPlaces has_place plan.batch
  pub turn : HasTurnPlace places plan.turn

abbrev pub ArePlaced : (List ℕ → Bool) → List (ℕ × Option PrimeRec) → List Plan → Type 0
ArePlaced has_place places plans = AllByRecursion (IsPlaced has_place places) plans
