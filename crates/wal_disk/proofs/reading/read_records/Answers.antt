use Rattle.std.proofs.Common.{◌≡◌, length, arith}
use Rattle.std.proofs.lemmas.Bool.Decides.{nat_tests}
use Rattle.wal_disk.proofs.Fronts.{ended}
use Rattle.wal_disk.proofs.reading.read_records.Goals as goal

pub returns-then-is_empty-clause-bad : goal.returns-then-is_empty-clause-bad
returns-then-is_empty-clause-bad c =
    let none : length c.loop-rest.rest.now ≡ 0 = grind (arith, nat_tests) in
    ended c.in-Some.version c.args.file.now c.loop-rest.bodies c.loop-rest.rest.now c.loop-rest.invariant.known c.loop-rest.invariant.fit c.loop-rest.invariant.whole none
