-- Ranges of keys in which all keys of one vertex lie.
use Rattle.std.specs.Prelude.{◌≡◌, true, ⊤}
use Rattle.std.specs.declared.cmp.Ordering.{Ordering}
use Rattle.std.specs.declared.cmp.Ordering.TheVariants.{Less}
use Rattle.std.specs.declared.ops.Bound.{Bound}
use Rattle.std.specs.Range.Bound.{IsForward, MatchBound}
use Rattle.std.specs.BTreeMap.Range.{IsLeBy, IsLtBy, range_contains}
use Rattle.graph_model.specs.declared.vid.Vid.{Vid}
use Rattle.graph_model.specs.Keys.{vid_cmp}

-- one id comes before the other
abbrev pub IsBefore : Vid → Vid → Type 0
IsBefore v w = vid_cmp v w ≡ Less

-- the end lies before all keys with this vertex
abbrev pub StartsBefore : {K : Type 0} → (K → Vid) → Vid → Bound K → Type 0
StartsBefore vertex v low = MatchBound low (λ k. IsBefore (vertex k) v) (λ k. IsBefore (vertex k) v) ⊤

-- the end lies after all keys with this vertex
abbrev pub EndsAfter : {K : Type 0} → (K → Vid) → Vid → Bound K → Type 0
EndsAfter vertex v high = MatchBound high (λ k. IsBefore v (vertex k)) (λ k. IsBefore v (vertex k)) ⊤

-- the range does not run backwards
abbrev pub RunsForward : {K : Type 0} → (K → K → Ordering) → Bound K × Bound K → Type 0
RunsForward R ends = IsForward (IsLeBy R) (IsLtBy R) ends.0 ends.1

-- each key with this vertex lies in the range
abbrev pub HoldsAllOf : {K : Type 0} → (K → K → Ordering) → (K → Vid) → Vid → Bound K × Bound K → Type 0
HoldsAllOf {K} R vertex v ends = (k : K) → vertex k ≡ v → range_contains R ends.0 ends.1 k ≡ true
