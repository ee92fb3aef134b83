use Rattle.statement_run.proofs.ClientLaws as laws
use Rattle.statement_run.proofs.laws.answers_count_once.Goals as goal

pub returns : goal.returns
returns c = record { first = laws.first_counts; fits = laws.answers_open; hears = laws.hears_answer }
