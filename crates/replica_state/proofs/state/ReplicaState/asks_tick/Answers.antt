use Rattle.replica_state.proofs.state.ReplicaState.asks_tick.Goals as goal

pub returns-in-Change-clause-sound : goal.returns-in-Change-clause-sound
returns-in-Change-clause-sound c = c.changes.ensures.sound c.args.self.now.whose
