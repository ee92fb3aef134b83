-- The durable state of a replica: what the records of its file leave, one after the other.
use Rattle.std.specs.Prelude.{ℕ, ◌+◌, ◌-◌, List, [], ◌∷◌, length, Result, Ok, Err}
use Rattle.byte_fields.specs.declared.misfit.Misfit.{Misfit}
use Rattle.raft_log.specs.declared.record.Record.{Record}
use Rattle.replica_file.specs.Durable.{Durable, kept_by}
use Rattle.replica_file.specs.Grammar.{Allowed, record_in}

-- nothing yet: term 0, no vote, no entry
abbrev pub blank : Durable
blank = record { term = 0; vote = 0; log = [] }

-- what records leave of a durable state
abbrev pub kept_in : Durable → List Record → Durable
kept_in before [] = before
kept_in before (r ∷ records) = kept_in (kept_by before r) records

-- the gate of the first record of a file, behind its magic
abbrev pub first_gate : ℕ
first_gate = 4

-- a body stands behind its gate and its length
abbrev pub body_behind : ℕ → ℕ
body_behind gate = gate + 5

-- the gate behind a body
abbrev pub next_gate : ℕ → List ℕ → ℕ
next_gate gate body = body_behind gate + length body

-- the place in the file of a field of a body
abbrev pub place_in : ℕ → List ℕ → Misfit → ℕ
place_in gate body misfit = body_behind gate + (length body - misfit.left)

-- What bodies leave of a durable state, where the gate of the first one stands at this place of the file; or the place of the
-- first field that doesn't fit.
abbrev pub then_left : (Durable → Result Durable ℕ) → Durable → ℕ → List ℕ → Result Record Misfit → Result Durable ℕ
then_left others before gate body (Ok r) = others (kept_by before r)
then_left others before gate body (Err misfit) = Err (place_in gate body misfit)

abbrev pub left_by : Allowed → ℕ → Durable → List (List ℕ) → Result Durable ℕ
left_by allowed gate before [] = Ok before
left_by allowed gate before (body ∷ bodies) = then_left (λ behind. left_by allowed (next_gate gate body) behind bodies) before gate body (record_in allowed body)

-- what all bodies of a file leave
abbrev pub folded : Allowed → List (List ℕ) → Result Durable ℕ
folded allowed bodies = left_by allowed first_gate blank bodies
