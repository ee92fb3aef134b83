use Rattle.replica_state.proofs.state.ReplicaState.asks_chain.Goals as goal

pub returns-then-not-leads-clause-sound : goal.returns-then-not-leads-clause-sound
returns-then-not-leads-clause-sound c = c.refuses.ensures.sound c.args.self.now.whose
