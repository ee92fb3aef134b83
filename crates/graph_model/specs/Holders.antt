-- An index by edge of the chains that are under way.
use Rattle.std.specs.Prelude.{◌≡◌, true, false, if◌then◌else◌, List, Option, None, Some}
use Rattle.std.specs.FinMap.{FinMap, get, entries, from_entries}
use Rattle.graph_model.specs.declared.edge_id.EdgeId.{EdgeId}
use Rattle.graph_model.specs.declared.call_id.CallId.{CallId}
use Rattle.graph_model.specs.declared.chain.Chain.{Chain}
use Rattle.graph_model.specs.Keys.{edge_cmp, call_cmp}
use Rattle.graph_model.specs.State.{is_on, first_on}
use Rattle.maps.specs.Keys.{has_key}

-- the index has, of each edge that a chain is on, the call of the chain
pub record AreHeld (pend : FinMap call_cmp Chain) (holders : FinMap edge_cmp CallId) : Type 0 where
  pub held : (e : EdgeId) (id : CallId) (chain : Chain) → get pend id ≡ Some chain → is_on e chain ≡ true → get holders e ≡ Some id

-- no chain is on any of the edges
pub record AreFree (pend : FinMap call_cmp Chain) (edges : List EdgeId) : Type 0 where
  pub free : (e : EdgeId) → has_key edge_cmp e edges ≡ true → first_on e (entries pend) ≡ None

-- what an index has at an edge
abbrev pub holder : List (EdgeId × CallId) → EdgeId → Option CallId
holder es e = get (from_entries {R = edge_cmp} es) e

-- at each of the edges the index has this, and at all others what it had
abbrev pub AreNow : Option CallId → List EdgeId → List (EdgeId × CallId) → List (EdgeId × CallId) → Type 0
AreNow id edges old new = (e : EdgeId) → holder new e ≡ (if has_key edge_cmp e edges then id else holder old e)

-- at all but these edges the index has what it had
abbrev pub AreElsewhere : List EdgeId → List (EdgeId × CallId) → List (EdgeId × CallId) → Type 0
AreElsewhere edges old new = (e : EdgeId) → has_key edge_cmp e edges ≡ false → holder new e ≡ holder old e
