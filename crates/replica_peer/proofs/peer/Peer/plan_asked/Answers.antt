use Rattle.std.proofs.Common.{sym, subst}
use Rattle.std.specs.Prelude.{IfOk}
use Rattle.replica_model.specs.Stepped.{does}
use Rattle.replica_state.specs.Asked.{asked_of}
use Rattle.replica_state.specs.declared.asked.Asked.{Asked}
use Rattle.replica_peer.specs.Peer.{home_of, replica_of}
use Rattle.replica_peer.specs.Room.{IsRoomOf}
use Rattle.replica_peer.specs.declared.room.Room.{Room}
use Rattle.replica_peer.proofs.peer.Peer.plan_asked.Goals as goal

pub returns-in-Nothing-clause-room : goal.returns-in-Nothing-clause-room
returns-in-Nothing-clause-room g c = λ input told.
    let a = c.args.self.now in
    subst (λ (x : Asked). IsRoomOf g.S.KeyStore.meaning g.S.KeyStore.has_place a (does (home_of a) (replica_of a) input (asked_of (home_of a) (replica_of a) x)) c.plan_nothing.result)
    (sym c.in-Nothing.is) (c.plan_nothing.ensures.nothing input)

pub returns-in-Quiet-clause-room : goal.returns-in-Quiet-clause-room
returns-in-Quiet-clause-room g c = λ input told.
    let a = c.args.self.now in
    subst (λ (x : Asked). IsRoomOf g.S.KeyStore.meaning g.S.KeyStore.has_place a (does (home_of a) (replica_of a) input (asked_of (home_of a) (replica_of a) x)) c.plan_nothing-in-Quiet.result)
    (sym c.in-Quiet.is) (c.plan_nothing-in-Quiet.ensures.quiet input)

pub returns-in-Refuses-clause-room : goal.returns-in-Refuses-clause-room
returns-in-Refuses-clause-room g c = λ input told.
    let a = c.args.self.now in
    subst (λ (x : Asked). IfOk c.plan_refusal.result (λ (room : Room). IsRoomOf g.S.KeyStore.meaning g.S.KeyStore.has_place a (does (home_of a) (replica_of a) input (asked_of (home_of a) (replica_of a) x)) room))
    (sym c.in-Refuses.is) (c.plan_refusal.ensures input)

pub returns-in-Points-clause-room : goal.returns-in-Points-clause-room
returns-in-Points-clause-room g c = λ input told.
    let a = c.args.self.now in
    subst (λ (x : Asked). IfOk c.plan_point.result (λ (room : Room). IsRoomOf g.S.KeyStore.meaning g.S.KeyStore.has_place c.plan_point.new.self (does (home_of a) (replica_of a) input (asked_of (home_of a) (replica_of a) x)) room))
    (sym c.in-Points.is) (c.plan_point.ensures.room input)

pub returns-in-Resumes-clause-room : goal.returns-in-Resumes-clause-room
returns-in-Resumes-clause-room g c = λ input told.
    let a = c.args.self.now in
    subst (λ (x : Asked). IfOk c.plan_resumes.result (λ (room : Room). IsRoomOf g.S.KeyStore.meaning g.S.KeyStore.has_place c.plan_resumes.new.self (does (home_of a) (replica_of a) input (asked_of (home_of a) (replica_of a) x)) room))
    (sym c.in-Resumes.is) (c.plan_resumes.ensures.room input)
