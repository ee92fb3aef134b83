-- What is durable behind a step.
use Rattle.std.proofs.Common.{◌≡◌, Option, None, Some, ap}
use Rattle.raft_core.specs.Durable as raft
use Rattle.raft_log.specs.declared.record.Record.{Record}
use Rattle.replica_file.specs.Durable.{Durable, kept}
use Rattle.replica_model.specs.Replica.{Replica}
use Rattle.replica_record.specs.Durable.{durable_of}

abbrev in_file : raft.Durable → Durable
in_file d = record { term = d.term; vote = d.vote; log = d.log }

pub durable_behind : (before behind : Replica) (r : Option Record) → raft.durable behind.core ≡ raft.kept (raft.durable before.core) r → durable_of behind ≡ kept (durable_of before) r
durable_behind before behind None is = ap in_file is
durable_behind before behind (Some r) is = ap in_file is
