-- What the code has, as definitions speak of it.
use Rattle.std.specs.Prelude.{◌≡◌, ℕ, List, [], ◌∷◌, Result, Ok, Err}
use Rattle.raft_log.specs.declared.record.Record.{Record}
use Rattle.replica_file.specs.Durable.{Durable as DurableState}
use Rattle.replica_file.specs.Folded.{next_gate}
use Rattle.replica_file.specs.declared.durable.Durable.{Durable}
use Rattle.replica_file.specs.declared.reading.LogRecord.{LogRecord}
use Rattle.replica_file.specs.declared.refused.FoldRefused.{FoldRefused}
use Rattle.replica_file.specs.declared.refused.FoldRefused.TheVariants as refusals

abbrev pub durable_of : Durable → DurableState
durable_of left = record { term = left.term; vote = left.vote; log = left.log.0 }

abbrev pub record_of : LogRecord → Record
record_of read = record { term = read.term; vote = read.vote; keep = read.keep; entries = read.entries.items }

-- the gate behind all of these bodies, from that of the first one on
abbrev pub last_gate : ℕ → List (List ℕ) → ℕ
last_gate gate [] = gate
last_gate gate (body ∷ bodies) = last_gate (next_gate gate body) bodies

-- What was answered is what the bodies leave, unless memory ran out.
abbrev pub Refuses : FoldRefused → Result DurableState ℕ → Type 0
Refuses (refusals.BadFile at) fold = fold ≡ Err at
Refuses refusals.NoMemory fold = Unit {0}

abbrev pub Leaves : Result Durable FoldRefused → Result DurableState ℕ → Type 0
Leaves (Ok left) fold = fold ≡ Ok (durable_of left)
Leaves (Err refused) fold = Refuses refused fold
