-- What a guard keeps, and what it says.
use Rattle.std.specs.Prelude.{◌≡◌, ℕ, ◌<◌, ◌≤◌, nat_lt, true, is_some, if◌then◌else◌}
use Rattle.std.specs.Option.{unwrap_or}
use Rattle.std.specs.Ordering.{nat_cmp}
use Rattle.std.specs.FinMap.{FinMap, get, insert}
use Rattle.maps.specs.Maps.{altered}
use Rattle.term_guard.specs.declared.verdict.Verdict.{Verdict}
use Rattle.term_guard.specs.declared.verdict.Verdict.TheVariants.{Fresh, Stale}

-- of each part that has a row the greatest term that was seen
abbrev pub Terms : Type 0
Terms = FinMap nat_cmp ℕ

-- the kept term of a part, 0 where it has no row
abbrev pub kept_term : Terms → ℕ → ℕ
kept_term g part = unwrap_or (get g part) 0

-- a term is stale where the kept one is above it
abbrev pub verdict_by : ℕ → ℕ → Verdict
verdict_by kept term = if nat_lt term kept then Stale kept else Fresh

-- what a guard says of a part's term
abbrev pub verdict : Terms → ℕ → ℕ → Verdict
verdict g part term = verdict_by (kept_term g part) term

-- the greater of a term and the kept one
abbrev pub greater : ℕ → ℕ → ℕ
greater term kept = if nat_lt kept term then term else kept

-- the guard in which the part has a row
abbrev pub with_row : Terms → ℕ → Terms
with_row g part = if is_some (get g part) then g else insert g part 0

-- behind a raise of a part that has a row: its term is the greater one and no lower than it was, lower terms than the raise's
-- are stale, and every other part's is as it was
pub record IsRaised (g : Terms) (part term : ℕ) (behind : Terms) : Type 0 where
  pub here : kept_term behind part ≡ greater term (kept_term g part)
  pub kept : kept_term g part ≤ kept_term behind part
  pub stale : (lower : ℕ) → lower < term → (above : ℕ) × (verdict behind part lower ≡ Stale above) × (term ≤ above)
  pub others : (q : ℕ) → ((q ≡ part) → ⊥) → kept_term behind q ≡ kept_term g q

abbrev pub Raised : Type 0
Raised = (g : Terms) (part term : ℕ) → is_some (get g part) ≡ true → IsRaised g part term (altered g part (greater term))

-- a new row is there, and changes no kept term
pub record IsRowed (g : Terms) (part : ℕ) (behind : Terms) : Type 0 where
  pub there : is_some (get behind part) ≡ true
  pub same : (q : ℕ) → kept_term behind q ≡ kept_term g q

abbrev pub Rowed : Type 0
Rowed = (g : Terms) (part : ℕ) → IsRowed g part (with_row g part)
