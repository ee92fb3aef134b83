-- What is durable of a replica, and what a record makes of it.
use Rattle.std.specs.Prelude.{ℕ, List, ◌++◌, take, Option, None, Some}
use Rattle.raft_log.specs.declared.entry.Entry.{Entry}
use Rattle.raft_log.specs.declared.record.Record.{Record}

-- its term, its vote in that term, 0 where it gave none, and its log
pub record Durable : Type 0 where
  pub term : ℕ
  pub vote : ℕ
  pub log : List Entry

-- the record's term and vote; the first `keep` entries, and then those of the record
abbrev pub kept_by : Durable → Record → Durable
kept_by before r = record { term = r.term; vote = r.vote; log = take r.keep before.log ++ r.entries }

-- the same, where there is a record
abbrev pub kept : Durable → Option Record → Durable
kept before None = before
kept before (Some r) = kept_by before r
