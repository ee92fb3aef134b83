use Rattle.wal_frames.specs.Spelling.{body}
use Rattle.replica_file.specs.OnDisk.{first_record}
use Rattle.replica_file.proofs.OnDisk.{founded_some}
use Rattle.replica_file.proofs.log_file.LogFile.create.Goals as goal

pub returns-in_ok-wal-in-Ok-clause-ok : goal.returns-in_ok-wal-in-Ok-clause-ok
returns-in_ok-wal-in-Ok-clause-ok g c allowed =
    rw c.in-Some.is (founded_some g.D.Disk.reads g.D.Disk.may_leave allowed c.in-Some.first c.in_ok-wal-in-Ok.wal c.in-Ok.ensures.fits (c.in_ok-wal-in-Ok.ensures.ok (body (first_record c.in-Some.first)) c.in-Ok.ensures.ok))
