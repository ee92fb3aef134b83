-- An index by vertex of the steps that changed something of it.
use Rattle.std.specs.Prelude.{◌≡◌, ◌≤◌, ◌<◌, ℕ, Bool, true, false, List, [], ◌∷◌, map, Some, ⊤}
use Rattle.std.specs.List.{slice_get}
use Rattle.std.specs.Option.{is_some}
use Rattle.std.specs.FinMap.{get, from_entries}
use Rattle.graph_model.specs.declared.vid.Vid.{Vid}
use Rattle.graph_model.specs.declared.edge_id.EdgeId.{EdgeId}
use Rattle.graph_model.specs.declared.mark.Mark.{Mark}
use Rattle.graph_model.specs.declared.change.Change.{Change}
use Rattle.graph_model.specs.declared.change.Change.TheVariants.{Nothing, Tag, Gone, Out, In}
use Rattle.graph_model.specs.Keys.{vid_cmp, mark_cmp}
use Rattle.maps.specs.Keys.{has_key}

-- the end of an edge by whose vertex a half of it is found
abbrev pub far_end : Bool → EdgeId → Vid
far_end true e = e.dst
far_end false e = e.src

-- the vertices of which a change may change something
abbrev pub touched : Change → List Vid
touched Nothing = []
touched (Tag key row) = key.vid ∷ []
touched (Gone v) = v ∷ []
touched (Out list) = map (λ x. far_end false x.0) list
touched (In list) = map (λ x. far_end true x.0) list

-- whether a step is marked at a vertex
abbrev pub has_mark : List (Mark × ⊤) → Vid → ℕ → Bool
has_mark es v i = is_some (get (from_entries {R = mark_cmp} es) (record { vid = v; step = i }))

-- each step is marked at the vertices of which it changed something
abbrev pub AreMarked : List Change → List (Mark × ⊤) → Type 0
AreMarked changes es = (i : ℕ) (x : Change) → slice_get changes i ≡ Some x → (v : Vid) → has_key vid_cmp v (touched x) ≡ true → has_mark es v i ≡ true

-- no step from one on and below another is marked at the vertex
abbrev pub AreNone : List (Mark × ⊤) → Vid → ℕ → ℕ → Type 0
AreNone es v from to = (i : ℕ) → from ≤ i → i < to → has_mark es v i ≡ false

-- the first such step
pub record IsNext (es : List (Mark × ⊤)) (v : Vid) (from to step : ℕ) : Type 0 where
  pub from_on : from ≤ step
  pub below : step < to
  pub marked : has_mark es v step ≡ true
  pub none : AreNone es v from step

-- what was marked is marked
abbrev pub Grows : List (Mark × ⊤) → List (Mark × ⊤) → Type 0
Grows old new = (v : Vid) (i : ℕ) → has_mark old v i ≡ true → has_mark new v i ≡ true
