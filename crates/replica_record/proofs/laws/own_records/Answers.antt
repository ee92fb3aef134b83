use Rattle.replica_record.proofs.Kept.{keeps_own}
use Rattle.replica_record.proofs.laws.own_records.Goals as goal

pub returns : goal.returns
returns c home r i = keeps_own home r i
