use Rattle.statement_run.proofs.KeptLaws as laws
use Rattle.statement_run.proofs.laws.ends_are_told.Goals as goal

pub returns : goal.returns
returns c = record { queued = laws.holds_open; waiting = laws.leaves_open; ended = laws.tells_ended }
