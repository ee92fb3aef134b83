use Rattle.std.proofs.Common.{refl}
use Rattle.replica_model.proofs.Hints as hints
use Rattle.replica_model.proofs.laws.hints_go.Goals as goal

pub returns : goal.returns
returns c = record { letters = hints.hints_go; sent = hints.hints_are_used; begins = λ core v off. refl; kept = hints.hints_are_kept }
