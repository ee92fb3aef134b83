use Rattle.std.proofs.Common.{List, ℕ, inl}
use Rattle.disk_model.specs.Disk.{LeavesOnly}
use Rattle.disk_model.proofs.Moments.{started}
use Rattle.replica_record.specs.Durable.{HasEither}
use Rattle.replica_record.proofs.OnDisk.{either_some, image_has_state}
use Rattle.replica_record.proofs.framing.make_durable.Goals as goal

pub returns-in-Some-clause-any_moment : goal.returns-in-Some-clause-any_moment
returns-in-Some-clause-any_moment g c = rw c.in-Some.is (λ allowed d r bytes is kept told.
    either_some allowed _ _ d r _ (λ (P : List ℕ → Type 0). LeavesOnly g.D.Disk.clock g.D.Disk.left_since c.args.file.now.0 c.keep.new.self.0 P) is
    (λ one framed own. c.keep.ensures.any_moment allowed d one bytes framed own kept told))

pub returns-in-Some-clause-left : goal.returns-in-Some-clause-left
returns-in-Some-clause-left g c = rw c.in-Some.is (λ allowed d r bytes next is kept told told_after.
    either_some allowed _ _ d r _ (λ (P : List ℕ → Type 0). P next) is
    (λ one framed own. c.keep.ensures.left allowed d one bytes next framed own kept told told_after))

pub returns-in-None-clause-any_moment : goal.returns-in-None-clause-any_moment
returns-in-None-clause-any_moment g c allowed d r bytes is kept told =
    started g.D.Disk.clock g.D.Disk.left_since c.args.file.now.0 (HasEither allowed d r)
    (λ image left. inl (image_has_state g.D.Disk.reads g.D.Disk.may_leave allowed d c.args.file.now bytes image kept told (g.met.D.Disk.only_now c.args.file.now.0 image left)))
