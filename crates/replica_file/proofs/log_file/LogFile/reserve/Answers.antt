use Rattle.replica_file.specs.Grammar.{file_version}
use Rattle.replica_file.proofs.log_file.LogFile.reserve.Goals as goal

pub returns-clause-kept : goal.returns-clause-kept
returns-clause-kept g c = rw (← c.self.view_is) (λ allowed d kept. record { bodies = kept.bodies; sound = c.reserve.ensures.sound file_version kept.bodies kept.sound; fold = kept.fold })
