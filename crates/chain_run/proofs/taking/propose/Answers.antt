use Rattle.std.proofs.Common.{refl, ap, sym}
use Rattle.std.specs.Option.{option_to_list}
use Rattle.chain_run.proofs.Proposing.{proposed_none}
use Rattle.chain_run.proofs.taking.propose.Goals as goal

pub returns-in-None : goal.returns-in-None
returns-in-None c = proposed_none c.args.leader.now _ refl refl c.len.result (option_to_list c.args.proposal) c.args.sender (ap option_to_list (sym c.in-None.is)) c.len.ensures refl c.remove.ensures.others
