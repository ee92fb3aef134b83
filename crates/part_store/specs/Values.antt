-- The bytes of what a part keeps at its keys.
use Rattle.std.specs.Prelude.{ℕ, List, [], ◌∷◌, ◌++◌}
use Rattle.byte_fields.specs.Fields.{number}
use Rattle.graph_bytes.specs.Spelling.{call, half}
use Rattle.graph_model.specs.declared.call_id.CallId.{CallId}
use Rattle.graph_model.specs.declared.half.Half.{Half}
use Rattle.part_keys.specs.declared.in_half.InHalf.{InHalf}
use Rattle.part_rules.specs.declared.kept.Kept.{Kept}
use Rattle.part_rules.specs.declared.kept.Outcome.{Outcome}
use Rattle.part_rules.specs.declared.kept.Outcome.TheVariants.{Open, Fine, Skipped, Pending, Cancelled, Conflict}

-- an in-half: the number of the chain that wrote it, and the half
abbrev pub in_value : InHalf → List ℕ
in_value kept = number 8 kept.v ++ half kept.half

-- the chain on an edge: its number, its call, and the half that it gives the edge
abbrev pub prime_value : ℕ → CallId → Half → List ℕ
prime_value v id made = number 8 v ++ (call id ++ half made)

-- the newest term of a source part
abbrev pub guard_value : ℕ → List ℕ
guard_value term = number 8 term

-- the kind of an outcome, and the other call of a conflict
abbrev pub outcome : Outcome → List ℕ
outcome Open = 0 ∷ []
outcome Fine = 1 ∷ []
outcome Skipped = 2 ∷ []
outcome Pending = 3 ∷ []
outcome Cancelled = 4 ∷ []
outcome (Conflict id) = 5 ∷ call id

-- a client's last call: its number, and its outcome
abbrev pub client_value : Kept → List ℕ
client_value last = number 8 last.number ++ outcome last.outcome
