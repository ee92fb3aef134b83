use Rattle.statement_run.proofs.ClientLaws as laws
use Rattle.statement_run.proofs.laws.rounds_count.Goals as goal

pub returns : goal.returns
returns c = record { hint = laws.uses_hint; count = laws.counts_on }
