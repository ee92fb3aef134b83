use Rattle.std.proofs.Common.{length, ◌∙◌, sym, subst}
use Rattle.disk_model.specs.Disk.{Torn, Told}
use Rattle.disk_model.specs.ReplayLaws.{torn_not}
use Rattle.disk_model.proofs.Moments.{started, goes_on}
use Rattle.wal_disk.specs.Torn.{IsTornFrom}
use Rattle.wal_disk.proofs.Tears.{on_err, told_whole}
use Rattle.wal_disk.proofs.writing.put.Goals as goal

pub returns-in_err-write_at-clause-any_moment : goal.returns-in_err-write_at-clause-any_moment
returns-in_err-write_at-clause-any_moment g c =
    let old = c.args.disk.now in
    let P = IsTornFrom (g.D.Disk.may_leave old) c.args.at (length c.args.bytes.now) in
    let at_start = started g.D.Disk.clock g.D.Disk.left_since old P (λ f left. (f, g.met.D.Disk.only_now old f left, torn_not c.args.at (length c.args.bytes.now) f)) in
    goes_on g.D.Disk.clock g.D.Disk.left_since old old c.write_at.new.self P _ at_start c.write_at.ensures.time (λ f now. c.write_at.ensures.images f now)

pub returns-clause-failed : goal.returns-clause-failed
returns-clause-failed g c =
    on_err _ _ (subst (Told (Torn c.args.at (length c.args.bytes.now)) (g.D.Disk.reads c.args.disk.now)) (sym (c.sync.ensures.reads ∙ c.in_ok-write_at.ensures.ok))
    (told_whole c.args.at c.args.bytes.now (g.D.Disk.reads c.args.disk.now) c.requires.inside))
