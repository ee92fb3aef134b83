-- What is durable of a replica: what comes up with it, and what a crash in a step leaves.
use Rattle.std.specs.Prelude.{ℕ, List}
use Rattle.raft_core.specs.Durable as raft
use Rattle.wal_disk.specs.declared.refused.OpenWhy.{OpenWhy}
use Rattle.wal_disk.specs.declared.refused.OpenWhy.TheVariants as why
use Rattle.replica_file.specs.Durable.{Durable}
use Rattle.replica_model.specs.declared.input.Input.{Input}
use Rattle.replica_model.specs.Replica.{Home, Replica, opened}
use Rattle.replica_model.specs.Stepped.{stepped}
use Rattle.replica_record.specs.Durable.{durable_of, HasEither}
use Rattle.replica_record.specs.Own.{allowed_in}

-- the replica that comes up with it: a follower with commit 0
abbrev pub lasting : Durable → raft.Durable
lasting d = record { term = d.term; vote = d.vote; log = d.log }

abbrev pub came_up : ℕ → Durable → Replica
came_up me d = opened me (lasting d)

-- a file with what was durable before a step, or with that and the step's one record
abbrev pub IsBeforeOrBehind : Home → Replica → Input → List ℕ → Type 0
IsBeforeOrBehind home before i = HasEither (allowed_in home) (durable_of before) (stepped home before i).kept

-- the file isn't found bad
abbrev pub IsNotBad : OpenWhy → Type 0
IsNotBad (why.BadFile at) = ⊥
IsNotBad why.DiskFault = Unit {0}
IsNotBad why.NoMemory = Unit {0}
