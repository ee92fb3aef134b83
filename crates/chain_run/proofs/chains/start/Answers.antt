use Rattle.chain_run.proofs.Calling.{started}
use Rattle.chain_run.proofs.chains.start.Goals as goal

pub returns : goal.returns
returns c = started _ c.new.ensures c.new-2.ensures c.new-3.ensures c.new-4.ensures c.new-5.ensures c.new-6.ensures
