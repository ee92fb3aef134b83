use Rattle.std.proofs.Common.{◌≡◌, ℕ, rules, refl, ap, subst, inl, inr, ◌∙◌, arith}
use Rattle.wal_disk.specs.File.{IsFile}
use Rattle.wal_disk.specs.Sound.{IsSound}
use Rattle.replica_file.proofs.Gates.{last_gate_is}
use Rattle.replica_file.proofs.OnDisk.{refused_cause}
use Rattle.replica_file.proofs.log_file.LogFile.recover.Goals as goal

pub returns-then-found-ne-FILE_VERSION-clause-cause :
    goal.returns-then-found-ne-FILE_VERSION-clause-cause
returns-then-found-ne-FILE_VERSION-clause-cause g c = (
  λ file told.
      let s = c.in_ok-found.ensures.ok file (c.in_ok-found.ensures.reads ∙ told) in
      let known = s.records.known in
      let one : c.in_ok-found.found.version ≡ 1 = omega (arith, known.0, known.1, c.if-found-ne-FILE_VERSION.true) in
      inr (inl (record { bodies = c.in_ok-found.found.bodies; records = subst (λ (v : ℕ). IsFile v c.in_ok-found.found.bodies file) one s.records; place = refl })),
  ap g.D.Disk.faults c.shut.ensures ∙ c.in_ok-found.ensures.faults,
)

pub folded-requires : goal.folded-requires
folded-requires g c =
    let place = c.in_ok-found.ensures.place in
    omega (arith, last_gate_is c.in_ok-found.found.version c.in_ok-found.found.bodies, place.0, place.1)

pub returns-in-Ok-clause-ok : goal.returns-in-Ok-clause-ok
returns-in-Ok-clause-ok g c =
    let two : c.in_ok-found.found.version ≡ 2 = search rules in
    record {
      bodies = c.in_ok-found.found.bodies;
      sound = subst (λ (v : ℕ). IsSound g.D.Disk.reads g.D.Disk.may_leave v c.in_ok-found.found.bodies c.in_ok-found.found.wal) two c.in_ok-found.ensures.ok;
      fold = c.in-Ok.ensures.leaves;
    }

pub returns-clause-cause : goal.returns-clause-cause
returns-clause-cause g c =
    let two : c.in_ok-found.found.version ≡ 2 = search rules in
    let sound = subst (λ (v : ℕ). IsSound g.D.Disk.reads g.D.Disk.may_leave v c.in_ok-found.found.bodies c.in_ok-found.found.wal) two c.in_ok-found.ensures.ok in
    rw c.into.ensures (refused_cause g.D.Disk.reads g.D.Disk.may_leave (g.P.Payloads.allowed c.args.payloads.now) c.in_ok-found.found.bodies c.in_ok-found.found.wal (g.D.Disk.reads c.args.disk) (g.D.Disk.faults c.args.disk) (g.D.Disk.faults c.shut-in-Err.result) c.in-Err.refused sound c.in_ok-found.ensures.reads c.in-Err.ensures.leaves (ap g.D.Disk.faults c.shut-in-Err.ensures ∙ c.in_ok-found.ensures.faults))
