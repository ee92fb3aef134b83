use Rattle.std.proofs.Common.{◌≡◌, IfOk, subst}
use Rattle.replica_model.specs.Asks.{Asks, offers}
use Rattle.replica_model.specs.Bytes.{spelling_of}
use Rattle.replica_state.specs.Asked.{asked_of}
use Rattle.replica_state.specs.State.{version, home_of, replica_of}
use Rattle.replica_state.proofs.Sourced.{sourced}
use Rattle.replica_state.proofs.state.ReplicaState.offers_of.Goals as goal

pub offers-requires : goal.offers-requires
offers-requires c = c.taken_by-offer.ensures.spelled c.requires.heard (sourced c.args.said c.args.from c.requires.sender c.requires.place)

pub returns-clause-asked : goal.returns-clause-asked
returns-clause-asked c =
    subst (λ (X : Asks). IfOk c.offers.result (λ asked. asked_of (home_of c.args.self.now) (replica_of c.args.self.now) asked ≡ X))
    (λ i. offers (spelling_of version) (c.taken_by-offer.ensures.offered i) (c.kept_sender-sender.ensures i))
    (c.offers.ensures.asked c.args.self.now.whose (replica_of c.args.self.now))

pub returns-clause-sound : goal.returns-clause-sound
returns-clause-sound c = c.offers.ensures.sound c.args.self.now.whose
