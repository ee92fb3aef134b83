use Rattle.std.proofs.Common.{[]}
use Rattle.replica_file.specs.Grammar.{file_version}
use Rattle.replica_file.proofs.log_file.write_first.Goals as goal

pub returns-in-Ok-clause-ok : goal.returns-in-Ok-clause-ok
returns-in-Ok-clause-ok g c first is = c.in-Ok.ensures.acknowledged file_version [] first is c.in_ok-wal.ensures.ok
