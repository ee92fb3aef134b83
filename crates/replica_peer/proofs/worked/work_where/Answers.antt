use Rattle.std.proofs.Common.{Bool, map, ap, subst, sym, ◌∙◌}
use Rattle.std.proofs.lemmas.List.{append-nil}
use Rattle.replica_state.specs.Leaving.{leaving_of}
use Rattle.replica_peer.specs.Along.{IsWorked}
use Rattle.replica_peer.specs.Peer.{home_in}
use Rattle.replica_peer.specs.Worked.{sent_where}
use Rattle.replica_peer.proofs.worked.work_where.Goals as goal

pub returns-else-leads : goal.returns-else-leads
returns-else-leads g c = λ senders p first items shows places kinds.
    subst (λ (b : Bool). IsWorked (map leaving_of c.args.leaves) (sent_where b (home_in c.args.machine.now.setting) c.args.by.me c.args.by.term senders p c.args.ready first items) c.nothing.result) (sym c.if-leads.false) (record {
      leaves = ap (map leaving_of) c.nothing.ensures.leaves ∙ sym (append-nil (map leaving_of c.args.leaves));
      rules = c.nothing.ensures.rules;
      begins = c.nothing.ensures.begins;
      ready = c.nothing.ensures.ready;
    })
