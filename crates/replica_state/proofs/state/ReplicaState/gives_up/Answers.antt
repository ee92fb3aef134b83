use Rattle.replica_state.proofs.state.ReplicaState.gives_up.Goals as goal

pub returns-clause-sound : goal.returns-clause-sound
returns-clause-sound c = c.offers.ensures.sound c.args.self.now.whose
