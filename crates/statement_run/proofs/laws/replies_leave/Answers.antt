use Rattle.std.proofs.Common.{refl}
use Rattle.statement_run.proofs.laws.replies_leave.Goals as goal

pub returns : goal.returns
returns c = λ caller answer. refl
