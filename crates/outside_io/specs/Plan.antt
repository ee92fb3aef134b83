-- What the calls of a source or a sink in memory do, by the number of the call.
use Rattle.std.specs.Prelude.{ℕ, ◌+◌, ◌-◌, ◌^◌, Option, Some, None, Bool, min, max, unwrap_or, slice_get, nat_eq, if◌then◌else◌}
use Rattle.std.specs.List.{list_any}
use Rattle.outside_io.specs.declared.plan.Plan.{Plan}

-- the next call is one of those that fail
abbrev pub is_failing : Plan → Bool
is_failing plan = list_any (nat_eq plan.calls) plan.failing

-- the most that the next call moves of so many bytes: at least one, and all where no size is left for it
abbrev pub piece_of : Plan → ℕ → ℕ
piece_of plan asked = min asked (max 1 (unwrap_or (slice_get plan.pieces plan.calls) asked))

-- how much the next call moves of so many bytes, and `None` where it fails
abbrev pub moves : Plan → ℕ → Option ℕ
moves plan asked = if is_failing plan then None else Some (piece_of plan asked)

-- one call more; the last number that a call can have stays
abbrev pub called : Plan → Plan
called plan = record plan { calls = min (plan.calls + 1) (2 ^ 64 - 1) }
