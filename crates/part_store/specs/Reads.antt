-- What is read of a part in its store.
use Rattle.std.specs.Prelude.{ℕ, Bool, List, ◌∷◌, ◌++◌, length, drop, Option, None, Some, Result, Ok, Err, is_some, if◌then◌else◌, ◌==◌}
use Rattle.std.specs.FinMap.{get}
use Rattle.std.specs.List.{filter_map}
use Rattle.std.specs.Option.{unwrap_or}
use Rattle.byte_fields.specs.Fields.{number}
use Rattle.byte_fields.specs.declared.misfit.Misfit.{Misfit}
use Rattle.byte_fields.specs.Reading.{number_at, byte_at, both_at, made_at, misfit, ◌>>=◌}
use Rattle.graph_bytes.specs.Reading.{call_at}
use Rattle.graph_model.specs.declared.call_id.CallId.{CallId}
use Rattle.graph_model.specs.declared.edge_id.EdgeId.{EdgeId}
use Rattle.graph_model.specs.declared.vid.Vid.{Vid}
use Rattle.kv_part.specs.Store.{Contents, under}
use Rattle.part_keys.specs.declared.key.Key.TheVariants.{Tag, OutEdge, InEdge, Prime, DoublePrime, Guard, Client}
use Rattle.part_keys.specs.Keys.{key, vertex, tag_kind}
use Rattle.part_rules.specs.declared.kept.Kept.{Kept}
use Rattle.part_rules.specs.declared.kept.Outcome.{Outcome}
use Rattle.part_rules.specs.declared.kept.Outcome.TheVariants.{Open, Fine, Skipped, Pending, Cancelled, Conflict}
use Rattle.part_store.specs.declared.setting.Setting.{Setting}

-- what a reading gave, if it fits
abbrev pub read_of : {X : Type 0} → Result (X × List ℕ) Misfit → Option X
read_of (Ok x) = Some x.0
read_of (Err m) = None

-- an outcome's kind, and the other call of a conflict
unfoldable pub outcome_at : List ℕ → Result (Outcome × List ℕ) Misfit
outcome_at bytes = byte_at bytes >>= λ kind.
    if kind.0 == 0 then Ok (Open, kind.1)
    else if kind.0 == 1 then Ok (Fine, kind.1)
    else if kind.0 == 2 then Ok (Skipped, kind.1)
    else if kind.0 == 3 then Ok (Pending, kind.1)
    else if kind.0 == 4 then Ok (Cancelled, kind.1)
    else if kind.0 == 5 then made_at (λ id. Conflict id) call_at kind.1
    else Err (misfit bytes)

-- a client's last call: its number, and its outcome
abbrev pub last_of : (ℕ × Outcome) → Kept
last_of x = record { number = x.0; outcome = x.1 }

unfoldable pub last_at : List ℕ → Result (Kept × List ℕ) Misfit
last_at bytes = made_at last_of (both_at (number_at 8) outcome_at) bytes

-- the number at the front of a value; 0 where there is none
abbrev pub number_of_value : Option (List ℕ) → ℕ
number_of_value None = 0
number_of_value (Some bytes) = unwrap_or (read_of (number_at 8 bytes)) 0

-- the number and the call of the chain that a value stands for
abbrev pub chain_of_value : Option (List ℕ) → Option (ℕ × CallId)
chain_of_value None = None
chain_of_value (Some bytes) = read_of (both_at (number_at 8) call_at bytes)

-- a client's last call
abbrev pub last_of_value : Option (List ℕ) → Option Kept
last_of_value None = None
last_of_value (Some bytes) = read_of (last_at bytes)

-- the first of two values that is there
abbrev pub value_of_two : Option (List ℕ) → Option (List ℕ) → Option (List ℕ)
value_of_two None second = second
value_of_two (Some bytes) second = Some bytes

-- ---- at the keys of the part

-- whether the tag of the vertex has a row
abbrev pub tag_is_in : Setting → Contents → Vid → ℕ → Bool
tag_is_in s m v tag = is_some (get m (key s.ids (Tag s.part v tag)))

-- whether the out-half of the edge is here
abbrev pub out_is_in : Setting → Contents → EdgeId → Bool
out_is_in s m e = is_some (get m (key s.ids (OutEdge s.part e)))

-- the kept number of the edge
abbrev pub number_in_store : Setting → Contents → EdgeId → ℕ
number_in_store s m e = number_of_value (get m (key s.ids (InEdge s.part e)))

-- the number and the call of the chain that stands on the edge
abbrev pub chain_in_store : Setting → Contents → EdgeId → Option (ℕ × CallId)
chain_in_store s m e = chain_of_value (value_of_two (get m (key s.ids (Prime s.part e))) (get m (key s.ids (DoublePrime s.part e))))

-- the guard for a source part
abbrev pub guard_in_store : Setting → Contents → ℕ → ℕ
guard_in_store s m source = number_of_value (get m (key s.ids (Guard s.part source)))

-- the client's last call
abbrev pub last_in_store : Setting → Contents → ℕ → Option Kept
last_in_store s m client = last_of_value (get m (key s.ids (Client s.part client)))

-- how the keys of a vertex's tags begin
abbrev pub tag_prefix : Setting → Vid → List ℕ
tag_prefix s v = tag_kind ∷ (number 3 s.part ++ vertex s.ids v)

-- the tag of a key behind so many bytes
abbrev pub tag_behind : ℕ → List ℕ × List ℕ → Option ℕ
tag_behind front pair = read_of (number_at 4 (drop front pair.0))

-- the tags of the vertex that have a row
abbrev pub tags_in_store : Setting → Contents → Vid → List ℕ
tags_in_store s m v = filter_map (tag_behind (length (tag_prefix s v))) (under (tag_prefix s v) m)
