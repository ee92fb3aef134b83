-- What holds of the chains, beside the graph: halves change together, and one chain an edge.
use Rattle.std.specs.Prelude.{◌≢◌, [], ◌≡◌, ℕ, ◌<◌, ◌≤◌, List, None, Some, true, false}
use Rattle.graph_model.specs.declared.vid.Vid.{Vid}
use Rattle.graph_model.specs.declared.edge_id.EdgeId.{EdgeId}
use Rattle.graph_model.specs.declared.half.Half.{Half}
use Rattle.chain_world.specs.Course.{Course, Courses, stands, is_doubled, is_settled, is_aborted, has_edge}

-- all edges of a list have this source part and this destination part
abbrev pub AreRouted : (Vid → ℕ) → ℕ → ℕ → List (EdgeId × Half) → Type 0
AreRouted route p q list = (e : EdgeId) → has_edge list e ≡ true → (route e.src ≡ p) × (route e.dst ≡ q)

-- `next p` is the index of the next entry of part p, and `kept e` the number of the in-half of e
pub record AreChains (route : Vid → ℕ) (k : Courses) (next : ℕ → ℕ) (kept : EdgeId → ℕ) : Type 0 where
  -- a chain's number is the index of an entry
  pub fresh : (p v : ℕ) → next p ≤ v → k p v ≡ None
  -- its edges go from its source part to its remote part
  pub routed : (p v : ℕ) (c : Course) → k p v ≡ Some c → AreRouted route p c.remote c.list
  -- it has at least one edge
  pub some : (p v : ℕ) (c : Course) → k p v ≡ Some c → c.list ≢ []
  -- at most one chain stands on an edge
  pub one_an_edge : (p v w : ℕ) (c d : Course) → k p v ≡ Some c → k p w ≡ Some d → stands c.fate ≡ true → stands d.fate ≡ true → (e : EdgeId) → has_edge c.list e ≡ true → has_edge d.list e ≡ true → v ≡ w
  -- where a chain wrote its in-halves, it or later ones did so on all of its edges; where a chain that wasn't aborted did
  -- not, it is later than what is there on each of them
  pub written : (p v : ℕ) (c : Course) → k p v ≡ Some c → c.wrote ≡ true → (e : EdgeId) → has_edge c.list e ≡ true → v ≤ kept e
  pub unwritten : (p v : ℕ) (c : Course) → k p v ≡ Some c → c.wrote ≡ false → is_aborted c.fate ≡ false → (e : EdgeId) → has_edge c.list e ≡ true → kept e < v
  -- settled or closed implies that it wrote, aborted that it didn't
  pub settled : (p v : ℕ) (c : Course) → k p v ≡ Some c → is_settled c.fate ≡ true → c.wrote ≡ true
  pub aborted : (p v : ℕ) (c : Course) → k p v ≡ Some c → is_aborted c.fate ≡ true → c.wrote ≡ false
  -- the number of an in-half is that of a chain, 0 where none wrote it
  pub below : (e : EdgeId) → kept e < next (route e.src)

-- a chain, and the same chain later: who it is stays, what it wrote stays, and so does its end; a chain that was shown is
-- never aborted
pub record IsFurther (old new : Course) : Type 0 where
  pub id : new.id ≡ old.id
  pub remote : new.remote ≡ old.remote
  pub list : new.list ≡ old.list
  pub wrote : old.wrote ≡ true → new.wrote ≡ true
  pub ended : stands old.fate ≡ false → new.fate ≡ old.fate
  pub shown : is_doubled old.fate ≡ true → is_aborted new.fate ≡ false

-- each chain that was begun has gone on
abbrev pub GoOn : Courses → Courses → Type 0
GoOn k l = (p v : ℕ) (old : Course) → k p v ≡ Some old → (new : Course) × (l p v ≡ Some new) × IsFurther old new
