-- What belongs to a part.
use Rattle.std.specs.Prelude.{◌≡◌, ◌<◌, ◌≤◌, ◌<ℤ◌, pos, List}
use Rattle.std.specs.List.{AllByRecursion}
use Rattle.graph_bytes.specs.Fits.{IsSmall, HasSpellingHalf}
use Rattle.graph_model.specs.declared.edge_id.EdgeId.{EdgeId}
use Rattle.graph_model.specs.declared.half.Half.{Half}
use Rattle.graph_model.specs.declared.vid.Vid.{Vid}
use Rattle.part_keys.specs.Keys.{IsKind, IsOfKind}
use Rattle.part_keys.specs.Routing.{part_of}
use Rattle.part_rules.specs.declared.kept.Outcome.{Outcome}
use Rattle.part_rules.specs.declared.kept.Outcome.TheVariants.{Conflict}
use Rattle.part_store.specs.declared.setting.Setting.{Setting}

-- 1 to 64 parts, one of them, and texts of 1 to 32 bytes where ids are texts
pub record IsSetting (s : Setting) : Type 0 where
  pub kind : IsKind s.ids
  pub some : 0 < s.parts
  pub few : s.parts ≤ 64
  pub one : 0 < s.part
  pub within : s.part ≤ s.parts

-- a vertex of the part
pub record IsVertexOf (s : Setting) (v : Vid) : Type 0 where
  pub of : IsOfKind s.ids v
  pub here : part_of s.parts v ≡ s.part

-- an edge of the space
pub record IsEdge (s : Setting) (e : EdgeId) : Type 0 where
  pub src : IsOfKind s.ids e.src
  pub dst : IsOfKind s.ids e.dst
  pub positive : pos 0 <ℤ e.etype

-- an edge that starts in the part
pub record IsFrom (s : Setting) (e : EdgeId) : Type 0 where
  pub edge : IsEdge s e
  pub here : part_of s.parts e.src ≡ s.part

-- an edge that ends in the part
pub record IsInto (s : Setting) (e : EdgeId) : Type 0 where
  pub edge : IsEdge s e
  pub here : part_of s.parts e.dst ≡ s.part

-- edges that start in the part, each with a half that has a spelling
abbrev pub AreFrom : Setting → List (EdgeId × Half) → Type 0
AreFrom s list = AllByRecursion (λ x. IsFrom s x.0 × HasSpellingHalf x.1) list

-- edges that end in the part, each with a half that has a spelling
abbrev pub AreInto : Setting → List (EdgeId × Half) → Type 0
AreInto s list = AllByRecursion (λ x. IsInto s x.0 × HasSpellingHalf x.1) list

-- edges that end in the part
abbrev pub AreEnds : Setting → List EdgeId → Type 0
AreEnds s edges = AllByRecursion (IsInto s) edges

-- an outcome that has a spelling
abbrev pub HasSpellingOutcome : Outcome → Type 0
HasSpellingOutcome (Conflict id) = IsSmall id.client
HasSpellingOutcome other = Unit {0}
