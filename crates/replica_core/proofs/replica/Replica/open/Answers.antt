use Rattle.std.proofs.Common.{rules, ap, ◌∙◌}
use Rattle.std.specs.Prelude.{IfErr}
use Rattle.wal_disk.specs.Cause.{HasCause}
use Rattle.replica_file.specs.OnDisk.{IsKept, IsBadIn}
use Rattle.replica_file.specs.Seen as seen
use Rattle.replica_record.specs.Own.{allowed_in}
use Rattle.replica_core.specs.Durable.{came_up, IsNotBad}
use Rattle.replica_core.specs.Who as of
use Rattle.replica_core.proofs.Opening.{found_is, if_err, not_bad}
use Rattle.replica_core.proofs.replica.Replica.open.Goals as goal

pub returns-in_err-found-clause-never_bad : goal.returns-in_err-found-clause-never_bad
returns-in_err-found-clause-never_bad g c d bytes told has =
    let allowed = allowed_in (of.home_of c.args.who) in
    let cause : IfErr c.from_residual.result (λ e. HasCause (IsBadIn allowed (g.D.Disk.reads c.args.disk)) (g.D.Disk.faults c.args.disk) (g.D.Disk.faults e.disk) e.why) = search rules in
    if_err c.from_residual.result (λ e. HasCause (IsBadIn allowed (g.D.Disk.reads c.args.disk)) (g.D.Disk.faults c.args.disk) (g.D.Disk.faults e.disk) e.why) (λ e. IsNotBad e.why)
    (λ e why. not_bad allowed d (g.D.Disk.reads c.args.disk) bytes (g.D.Disk.faults c.args.disk) (g.D.Disk.faults e.disk) e.why told has why) cause

pub returns-clause-found : goal.returns-clause-found
returns-clause-found g c d bytes told has =
    let allowed = allowed_in (of.home_of c.args.who) in
    let left = seen.durable_of c.in_ok-found.found.durable in
    let kept : IsKept g.D.Disk.reads g.D.Disk.may_leave allowed left c.in_ok-found.found.file = search rules in
    c.come_up.ensures.opened ∙ ap (came_up c.args.who.peer) (found_is g.D.Disk.reads g.D.Disk.may_leave allowed left d c.in_ok-found.found.file (g.D.Disk.reads c.args.disk) bytes kept c.in_ok-found.ensures.reads told has)
