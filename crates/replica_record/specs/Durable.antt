-- What is durable of a replica, as its file has it.
use Rattle.std.specs.Prelude.{◌⊎◌, ℕ, List, Option}
use Rattle.raft_log.specs.declared.record.Record.{Record}
use Rattle.replica_file.specs.Durable.{Durable, kept}
use Rattle.replica_file.specs.File.{HasState}
use Rattle.replica_file.specs.Grammar.{Allowed}
use Rattle.replica_model.specs.Replica.{Replica}

-- term, vote and log of its peer
abbrev pub durable_of : Replica → Durable
durable_of r = record { term = r.core.term; vote = r.core.vote; log = r.core.log }

-- a file with the state before a record, or with that which the record leaves of it; without a record, with the state
abbrev pub HasEither : Allowed → Durable → Option Record → List ℕ → Type 0
HasEither allowed before r file = HasState allowed before file ⊎ HasState allowed (kept before r) file
