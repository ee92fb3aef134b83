use Rattle.std.proofs.Common.{refl, sym}
use Rattle.std.proofs.lemmas.Result.{on_ok_weaker}
use Rattle.chain_run.proofs.Proposing.{proposed_from, proposed_alone}
use Rattle.chain_run.proofs.taking.propose_entry.Goals as goal

pub returns-in-Some : goal.returns-in-Some
returns-in-Some c =
    on_ok_weaker c.put.result
    (λ put. proposed_from c.args.leader.now _ refl refl c.len-number.result c.args.entry c.in-Some.sender c.args.sender (sym c.in-Some.is) c.len-number.ensures c.in_ok-push.ensures.ok put)
    c.put.ensures

pub returns-in-None : goal.returns-in-None
returns-in-None c =
    proposed_alone c.args.leader.now _ refl refl c.len-number.result c.args.entry c.args.sender (sym c.in-None.is) c.len-number.ensures c.in_ok-push.ensures.ok c.remove.ensures.others
