use Rattle.std.proofs.Common.{sym}
use Rattle.chain_leader.proofs.Doubling.{doubled}
use Rattle.replica_state.proofs.offer.give_up.Goals as goal

pub returns-clause-offered : goal.returns-clause-offered
returns-clause-offered c = sym (doubled c.args.t.now.0 c.args.id c.in-Some.v (sym c.in-Some.ensures))
