use Rattle.replica_model.proofs.StepLaws.{one_record}
use Rattle.replica_model.specs.Stepped.{stepped}
use Rattle.replica_record.proofs.Steps.{durable_behind}
use Rattle.replica_record.proofs.laws.durable_behind.Goals as goal

pub returns : goal.returns
returns c home r i is = durable_behind r (stepped home r i).replica (stepped home r i).kept (one_record home r i is)
