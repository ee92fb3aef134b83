use Rattle.statement_run.proofs.ClientLaws as laws
use Rattle.statement_run.proofs.laws.statements_stop.Goals as goal

pub returns : goal.returns
returns c = record { conflict = laws.behind_conflict; cancelled = laws.behind_cancelled; unknown = laws.behind_unknown }
