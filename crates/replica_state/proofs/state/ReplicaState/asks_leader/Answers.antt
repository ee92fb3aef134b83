use Rattle.std.proofs.Common.{◌≡◌, sym, subst}
use Rattle.chain_leader.specs.declared.body.ChainBody.{ChainBody}
use Rattle.replica_model.specs.Asks.{asks_leader, hint_in, read_in}
use Rattle.replica_state.specs.Asked.{asked_of}
use Rattle.replica_state.specs.State.{home_of, replica_of}
use Rattle.replica_state.proofs.state.ReplicaState.asks_leader.Goals as goal

pub returns-in-Resume-clause-asked : goal.returns-in-Resume-clause-asked
returns-in-Resume-clause-asked c =
    subst (λ (said : ChainBody). asked_of (home_of c.args.self.now) (replica_of c.args.self.now) c.resumes.result ≡ asks_leader (home_of c.args.self.now) (replica_of c.args.self.now) c.args.from said (hint_in said) (read_in said))
    (sym c.in-Resume.is) (c.resumes.ensures.asked c.args.from)
