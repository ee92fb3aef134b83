-- What holds of the part behind every decided list.
use Rattle.std.specs.Prelude.{◌≡◌, ◌⊎◌, ℕ, suc, ◌<◌, ◌≤◌, List, ◌∷◌, ◌++◌, length, Bool, true, Some}
use Rattle.std.specs.FinMap.{FinMap, get}
use Rattle.std.specs.List.{AllByRecursion}
use Rattle.std.specs.Map.{keys_of}
use Rattle.graph_model.specs.Keys.{edge_cmp, in_cmp, in_key}
use Rattle.graph_model.specs.declared.half.Half.{Half}
use Rattle.graph_model.specs.declared.edge_id.EdgeId.{EdgeId}
use Rattle.maps.specs.Keys.{has_key}
use Rattle.maps.specs.Lists.{at_key}
use Rattle.part_keys.specs.declared.chain.PrimeRec.{PrimeRec}
use Rattle.part_keys.specs.declared.in_half.InHalf.{InHalf}
use Rattle.part_keys.specs.declared.proposal.Proposal.{Proposal}
use Rattle.part_keys.specs.declared.proposal.Proposal.TheVariants.{Made}
use Rattle.part_keys.specs.declared.entry.PartEntry.{PartEntry}
use Rattle.part_keys.specs.declared.entry.PartEntry.TheVariants.{Prime, Remote, Fence}
use Rattle.part_rules.specs.declared.applied.Applied.TheVariants.{Begun}
use Rattle.part_rules.specs.Part.{Part, number_of, number_in, guard_of, is_on, is_stale}
use Rattle.part_rules.specs.Machine.{taken_of}
use Rattle.part_rules.specs.Folded.{item_applied, folded}

-- One chain an edge: of the chains that stand at most one is on an edge.
abbrev pub OneChainAnEdge : Type 0
OneChainAnEdge = (parts : ℕ) (decided : List (ℕ × Proposal)) (v w : ℕ) (c d : PrimeRec) (e : EdgeId) → get (folded parts decided).chains v ≡ Some c → get (folded parts decided).chains w ≡ Some d → is_on e c ≡ true → is_on e d ≡ true → v ≡ w

-- a chain that stands under a number: the Prime that began it has that index, and took its list
pub record IsPrimeOf (parts : ℕ) (decided : List (ℕ × Proposal)) (v : ℕ) (c : PrimeRec) : Type 0 where
  pub before : List (ℕ × Proposal)
  pub term : ℕ
  pub given : List (EdgeId × Half)
  pub absent : Bool
  pub after : List (ℕ × Proposal)
  pub is : decided ≡ before ++ (term, Made (Prime c.id given absent)) ∷ after
  pub index : v ≡ suc (length before)
  pub named : c.v ≡ v
  pub begun : (item_applied parts v (Made (Prime c.id given absent)) (folded parts before)).1 ≡ Begun v
  pub took : c.list ≡ taken_of (folded parts before) given absent

abbrev pub NamedByPrime : Type 0
NamedByPrime = (parts : ℕ) (decided : List (ℕ × Proposal)) (v : ℕ) (c : PrimeRec) → get (folded parts decided).chains v ≡ Some c → IsPrimeOf parts decided v c

-- Kept numbers and guards never fall.
abbrev pub NumbersRise : Type 0
NumbersRise = (parts : ℕ) (decided more : List (ℕ × Proposal)) (e : EdgeId) → number_of (folded parts decided) e ≤ number_of (folded parts (decided ++ more)) e

abbrev pub GuardsRise : Type 0
GuardsRise = (parts : ℕ) (decided more : List (ℕ × Proposal)) (from : ℕ) → guard_of (folded parts decided) from ≤ guard_of (folded parts (decided ++ more)) from

-- Behind a Remote or a Fence that was decided each Remote and Fence of that source part and a lower term is stale, for good.
abbrev pub HoldsOff : ℕ → PartEntry → Part → Type 0
HoldsOff lower (Remote from term v list) p = lower < term → is_stale p from lower ≡ true
HoldsOff lower (Fence from term v edges) p = lower < term → is_stale p from lower ≡ true
HoldsOff lower other p = Unit {0}

abbrev pub LowerAreStale : Type 0
LowerAreStale = (parts : ℕ) (decided more : List (ℕ × Proposal)) (at lower : ℕ) (entry : PartEntry) → HoldsOff lower entry (folded parts (decided ++ (at, Made entry) ∷ more))

-- an in-half written by chain v
abbrev pub by : ℕ → Half → InHalf
by v half = record { v = v; half = half }

-- a Remote that names an edge of the list is of chain v, with the whole list, or of an earlier chain
abbrev pub IsLastRemote : ℕ → List (EdgeId × Half) → ℕ → List (EdgeId × Half) → Type 0
IsLastRemote v list w l = ((w ≡ v) × (l ≡ list)) ⊎ ((e : EdgeId) → has_key edge_cmp e (keys_of list) ≡ true → has_key edge_cmp e (keys_of l) ≡ true → w < v)

abbrev pub IsLastOn : ℕ → List (EdgeId × Half) → Proposal → Type 0
IsLastOn v list (Made (Remote from term w l)) = IsLastRemote v list w l
IsLastOn v list x = Unit {0}

-- each in-half of the list is chain v's, with its half; each kept number is below v
abbrev pub AreWritten : ℕ → List (EdgeId × Half) → FinMap in_cmp InHalf → Type 0
AreWritten v list inn = (e : EdgeId) (half : Half) → at_key edge_cmp e list ≡ Some half → get inn (in_key e) ≡ Some (by v half)

abbrev pub AreUnwritten : ℕ → List (EdgeId × Half) → FinMap in_cmp InHalf → Type 0
AreUnwritten v list inn = (e : EdgeId) → has_key edge_cmp e (keys_of list) ≡ true → number_in (get inn (in_key e)) < v

-- Halves change together: where chain v is the last one on each of its edges, all of its in-halves are written or none
abbrev pub WholeOrNone : Type 0
WholeOrNone = (parts : ℕ) (decided : List (ℕ × Proposal)) (v : ℕ) (list : List (EdgeId × Half)) → 0 < v → AllByRecursion (λ (d : ℕ × Proposal). IsLastOn v list d.1) decided → AreWritten v list (folded parts decided).inn ⊎ AreUnwritten v list (folded parts decided).inn
