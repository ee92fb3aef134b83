use Rattle.wal_frames.specs.Spelling.{body}
use Rattle.replica_file.specs.Grammar.{file_version}
use Rattle.replica_file.proofs.Files.{before_or_behind}
use Rattle.replica_file.proofs.OnDisk.{on_ok, kept_more, leaves_one}
use Rattle.replica_file.proofs.log_file.LogFile.keep.Goals as goal

pub append-requires-clause-sound : goal.append-requires-clause-sound
append-requires-clause-sound g c =
    let kept = (rw (← c.self.view_is) at c.requires.kept).2 in
    (file_version, kept.bodies, kept.sound)

pub returns-clause-acknowledged : goal.returns-clause-acknowledged
returns-clause-acknowledged g c = rw (← c.self.view_is) (λ allowed d r is own kept.
    on_ok c.append.result _ _ (λ sound. kept_more g.D.Disk.reads g.D.Disk.may_leave allowed d r kept.bodies c.append.new.self own kept.fold sound)
    (c.append.ensures.acknowledged file_version kept.bodies (body r) is kept.sound))

pub returns-clause-any_moment : goal.returns-clause-any_moment
returns-clause-any_moment g c = rw (← c.self.view_is) (λ allowed d r file is own kept told.
    leaves_one g.D.Disk.clock g.D.Disk.left_since allowed d r kept.bodies c.self.inside.wal.0 c.append.new.self.0 own kept.fold
    (c.append.ensures.any_moment file_version kept.bodies (body r) file is kept.sound told))

pub returns-clause-left : goal.returns-clause-left
returns-clause-left g c = rw (← c.self.view_is) (λ allowed d r file next is own kept told told_after.
    before_or_behind allowed d r kept.bodies next kept.fold own (c.append.ensures.left file_version kept.bodies (body r) file next is kept.sound told told_after))
