use Rattle.std.proofs.Common.{length}
use Rattle.disk_model.proofs.tearing.+torn.Given as goal

abbrev pub decreases-torn : goal.decreases-torn
decreases-torn l = length l.calls.now
