-- The tie between a part's state and the bytes of its store: each pair of the store is one fact of the state.
use Rattle.std.specs.Prelude.{◌≡◌, ℕ, ◌<◌, ◌^◌, true, List, Some}
use Rattle.std.specs.FinMap.{get}
use Rattle.std.specs.List.{AllByRecursion}
use Rattle.graph_bytes.specs.Fits.{FitsRow, FitsHalf, FitsCall}
use Rattle.graph_model.specs.Edges.{edges_in, is_once_each}
use Rattle.graph_model.specs.Keys.{edge_of, in_key}
use Rattle.graph_model.specs.declared.edge_id.EdgeId.{EdgeId}
use Rattle.graph_model.specs.declared.half.Half.{Half}
use Rattle.graph_model.specs.declared.in_key.InKey.{InKey}
use Rattle.graph_model.specs.declared.tag_key.TagKey.{TagKey}
use Rattle.graph_model.specs.declared.val.Val.{Val}
use Rattle.graph_model.specs.declared.vid.Vid.{Vid}
use Rattle.kv_part.specs.Store.{Contents}
use Rattle.part_keys.specs.declared.chain.PrimeRec.{PrimeRec}
use Rattle.part_keys.specs.declared.in_half.InHalf.{InHalf}
use Rattle.part_keys.specs.declared.key.Key.{Key}
use Rattle.part_keys.specs.declared.key.Key.TheVariants.{Tag, OutEdge, InEdge, Guard, Client}
use Rattle.part_keys.specs.KeyOrder.{part_in}
use Rattle.part_keys.specs.Keys.{key, FitsKey}
use Rattle.part_rules.specs.Part.{Part, is_on}
use Rattle.part_rules.specs.declared.kept.Kept.{Kept}
use Rattle.part_rules.specs.declared.kept.Outcome.{Outcome}
use Rattle.part_rules.specs.declared.kept.Outcome.TheVariants as kept
use Rattle.part_store.specs.Facts.{fact}
use Rattle.part_store.specs.declared.setting.Setting.{Setting}

-- an outcome that has a spelling
abbrev pub FitsOutcome : Outcome → Type 0
FitsOutcome (kept.Conflict id) = FitsCall id
FitsOutcome other = Unit {0}

-- an in-half that has a spelling, at the key of its edge
pub record FitsIn (s : Setting) (k : InKey) (half : InHalf) : Type 0 where
  pub is : k ≡ in_key (edge_of k)
  pub place : FitsKey s.ids (InEdge s.part (edge_of k))
  pub number : half.v < 2 ^ 64
  pub value : FitsHalf half.half

-- an edge of the part, and a half that has a spelling
abbrev pub FitsOut : Setting → EdgeId × Half → Type 0
FitsOut s x = FitsKey s.ids (OutEdge s.part x.0) × FitsHalf x.1

-- an edge that ends in the part, and a half that has a spelling
abbrev pub FitsInto : Setting → EdgeId × Half → Type 0
FitsInto s x = FitsKey s.ids (InEdge s.part x.0) × FitsHalf x.1

-- a tag of a vertex of the part
abbrev pub FitsTag : Setting → Vid → ℕ → Type 0
FitsTag s v tag = FitsKey s.ids (Tag s.part v tag)

-- a chain of the part that stands at number v
pub record FitsChain (s : Setting) (v : ℕ) (chain : PrimeRec) : Type 0 where
  pub named : chain.v ≡ v
  pub number : v < 2 ^ 64
  pub call : FitsCall chain.id
  pub once : is_once_each (edges_in chain.list) ≡ true
  pub each : AllByRecursion (FitsOut s) chain.list

-- each fact of the state has a key of the part and a spelling; at most one chain stands on an edge
pub record FitsPart (s : Setting) (p : Part) : Type 0 where
  pub tags : (t : TagKey) (vals : List Val) → get p.tags t ≡ Some vals → FitsKey s.ids (Tag s.part t.vid t.tag) × FitsRow vals
  pub out : (e : EdgeId) (vals : List Val) → get p.out e ≡ Some vals → FitsKey s.ids (OutEdge s.part e) × FitsRow vals
  pub inn : (k : InKey) (half : InHalf) → get p.inn k ≡ Some half → FitsIn s k half
  pub chains : (v : ℕ) (chain : PrimeRec) → get p.chains v ≡ Some chain → FitsChain s v chain
  pub apart : (v u : ℕ) (c d : PrimeRec) (e : EdgeId) → get p.chains v ≡ Some c → get p.chains u ≡ Some d → is_on e c ≡ true → is_on e d ≡ true → v ≡ u
  pub guards : (source term : ℕ) → get p.guards source ≡ Some term → FitsKey s.ids (Guard s.part source) × (term < 2 ^ 64)
  pub clients : (client : ℕ) (last : Kept) → get p.clients client ≡ Some last → FitsKey s.ids (Client s.part client) × (last.number < 2 ^ 64) × FitsOutcome last.outcome

-- each pair is at a key of the part
abbrev pub HasKeysOf : Setting → Contents → Type 0
HasKeysOf s m = (bytes value : List ℕ) → get m bytes ≡ Some value → (k : Key) × FitsKey s.ids k × (part_in k ≡ s.part) × (bytes ≡ key s.ids k)

-- The store keeps the state: at each key of the part it has the state's fact, and it has no other pair.
pub record Keeps (s : Setting) (p : Part) (m : Contents) : Type 0 where
  pub facts : (k : Key) → FitsKey s.ids k → part_in k ≡ s.part → get m (key s.ids k) ≡ fact p k
  pub only : HasKeysOf s m
  pub fits : FitsPart s p
