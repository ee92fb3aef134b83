use Rattle.replica_tests.specs.Net.{AreSound}
use Rattle.replica_tests.proofs.net.Net.deliver.Given as goal

-- the replicas are sound
abbrev pub invariant-mail : goal.invariant-mail
invariant-mail l = AreSound l.self.one l.self.two l.self.three
