use Rattle.statement_run.proofs.Stories as stories
use Rattle.statement_run.proofs.laws.calls_in_order.Goals as goal

pub returns : goal.returns
returns c = stories.calls_in_order
