use Rattle.std.proofs.Common.{rules, ◌≡◌, Option, false, subst, refl, sym}
use Rattle.std.specs.Prelude.{is_err}
use Rattle.disk_model.specs.Disk.{LeavesOnly}
use Rattle.raft_log.specs.declared.record.Record.{Record}
use Rattle.replica_file.specs.Durable.{kept}
use Rattle.replica_file.specs.OnDisk.{IsKept}
use Rattle.replica_record.specs.Durable.{durable_of, HasEither}
use Rattle.replica_record.specs.Own.{allowed_in}
use Rattle.replica_record.proofs.OnDisk.{image_has_state}
use Rattle.replica_core.specs.Replica.{home_of, state_of, step_of}
use Rattle.replica_core.proofs.Stepping.{ok_of, kept_behind}
use Rattle.kv_part.specs.MapStore.{contents, has_place_for}
use Rattle.replica_core.specs.Spelled.{HaveSpellings}
use Rattle.replica_core.proofs.Spelled.{at_home, packets_spelled}
use Rattle.replica_core.proofs.replica.Replica.step.Goals as goal

pub returns-then-is_err-clause-any_moment : goal.returns-then-is_err-clause-any_moment
returns-then-is_err-clause-any_moment g c i bytes room up told =
    let old = c.args.self.now in
    subst (λ (r : Option Record). LeavesOnly g.D.Disk.clock g.D.Disk.left_since old.file.0 c.make_durable.new.file.0 (HasEither (allowed_in (home_of old)) (durable_of (state_of old)) r)) room.made.kept
    (c.make_durable.ensures.any_moment (allowed_in (home_of old)) (durable_of (state_of old)) c.args.room.made.kept bytes room.framed (c.requires.sound.kept up) told)

pub returns-then-is_err-clause-left : goal.returns-then-is_err-clause-left
returns-then-is_err-clause-left g c i bytes next room up told told_after =
    let old = c.args.self.now in
    subst (λ (r : Option Record). HasEither (allowed_in (home_of old)) (durable_of (state_of old)) r next) room.made.kept
    (c.make_durable.ensures.left (allowed_in (home_of old)) (durable_of (state_of old)) c.args.room.made.kept bytes next room.framed (c.requires.sound.kept up) told told_after)

pub returns-clause-sound : goal.returns-clause-sound
returns-clause-sound g c =
    let old = c.args.self.now in
    let i = c.requires.room.0 in
    let room = c.requires.room.1 in
    let ok : is_err c.make_durable.result ≡ false = search rules in
    record {
      peer = c.take-packets.ensures.sound;
      kept = λ up. kept_behind g.D.Disk.reads g.D.Disk.may_leave (home_of old) _ (state_of old) (step_of old i).replica _ c.args.room.made.kept c.make_durable.new.file
          c.take-packets.ensures.home (c.take-packets.ensures.stepped i room.made) room.made.durable
          (ok_of c.make_durable.result (IsKept g.D.Disk.reads g.D.Disk.may_leave (allowed_in (home_of old)) (kept (durable_of (state_of old)) c.args.room.made.kept) c.make_durable.new.file) ok
          (c.make_durable.ensures.acknowledged (allowed_in (home_of old)) (durable_of (state_of old)) c.args.room.made.kept room.framed (c.requires.sound.kept up)));
    }

pub returns-clause-acknowledged : goal.returns-clause-acknowledged
returns-clause-acknowledged g c i bytes image room told left =
    let old = c.args.self.now in
    let ok : is_err c.make_durable.result ≡ false = search rules in
    image_has_state g.D.Disk.reads g.D.Disk.may_leave (allowed_in (home_of old)) (durable_of (step_of old i).replica) c.make_durable.new.file bytes image
    (kept_behind g.D.Disk.reads g.D.Disk.may_leave (home_of old) (home_of old) (state_of old) (step_of old i).replica (step_of old i).replica c.args.room.made.kept c.make_durable.new.file
    refl refl room.made.durable
    (ok_of c.make_durable.result (IsKept g.D.Disk.reads g.D.Disk.may_leave (allowed_in (home_of old)) (kept (durable_of (state_of old)) c.args.room.made.kept) c.make_durable.new.file) ok
    (c.make_durable.ensures.acknowledged (allowed_in (home_of old)) (durable_of (state_of old)) c.args.room.made.kept room.framed (c.requires.sound.kept (search rules)))))
    told left

pub returns-clause-any_moment : goal.returns-clause-any_moment
returns-clause-any_moment g c i bytes room up told =
    let old = c.args.self.now in
    subst (λ (r : Option Record). LeavesOnly g.D.Disk.clock g.D.Disk.left_since old.file.0 c.make_durable.new.file.0 (HasEither (allowed_in (home_of old)) (durable_of (state_of old)) r)) room.made.kept
    (c.make_durable.ensures.any_moment (allowed_in (home_of old)) (durable_of (state_of old)) c.args.room.made.kept bytes room.framed (c.requires.sound.kept up) told)

pub returns-clause-left : goal.returns-clause-left
returns-clause-left g c i bytes next room up told told_after =
    let old = c.args.self.now in
    subst (λ (r : Option Record). HasEither (allowed_in (home_of old)) (durable_of (state_of old)) r next) room.made.kept
    (c.make_durable.ensures.left (allowed_in (home_of old)) (durable_of (state_of old)) c.args.room.made.kept bytes next room.framed (c.requires.sound.kept up) told told_after)

pub returns-clause-spelled : goal.returns-clause-spelled
returns-clause-spelled g c i room is heard =
    let old = c.args.self.now in
    let leaves = (step_of old i).leaves in
    subst HaveSpellings (sym c.take-packets.ensures.leaves)
    (packets_spelled c.args.room.made.leaves leaves room.made.leaves
    (c.leaves_are_spelled.ensures.leaves (home_of old) (state_of old) i (at_home contents has_place_for old.peer c.requires.sound.peer) is heard))
