-- The one replica of a part.
use Rattle.std.specs.Prelude.{ℕ, ◌+◌, List, [], ◌∷◌, ◌++◌, length, refl}
use Rattle.std.specs.Coded.{Coded, code_by, coded×}
use Rattle.first_part.specs.declared.entry.PartEntry.{PartEntry}
use Rattle.first_part.specs.declared.applied.Applied.{Applied}
use Rattle.first_part.specs.Part.{Part, start, applied}

-- the part's machine, and the entries that were applied to it, which count as decided
pub record Replica : Type 0 where
  pub machine : Part
  pub decided : List PartEntry

-- a replica is stored as its two parts
abbrev pub replica_code : Coded Part → Coded (List PartEntry) → Coded Replica
replica_code m d = code_by (Part × List PartEntry) (coded× m d) (λ r. (r.machine, r.decided)) (λ p. record { machine = p.0; decided = p.1 }) (λ _. refl)

abbrev pub fresh : Replica
fresh = record { machine = start; decided = [] }

-- an entry's index: its place in the list, from 1
abbrev pub next_index : Replica → ℕ
next_index r = length r.decided + 1

-- the answer of the replica to an entry that it decides and applies now
abbrev pub answer_to : Replica → PartEntry → Applied
answer_to r entry = (applied r.machine (next_index r) entry).1

-- the replica after that
abbrev pub replica_after : Replica → PartEntry → Replica
replica_after r entry = record { machine = (applied r.machine (next_index r) entry).0; decided = r.decided ++ entry ∷ [] }
