use Rattle.std.proofs.Common.{ap, sym, subst, ◌∙◌}
use Rattle.std.specs.Prelude.{IfOk}
use Rattle.std.specs.Option.{option_map}
use Rattle.raft_core.specs.Core.{Core}
use Rattle.raft_core.specs.Laws.{IsLeaderless}
use Rattle.raft_core.specs.Peer.{core_of}
use Rattle.raft_core.specs.Step.{Stepped as RaftStepped, stepped as raft_stepped}
use Rattle.replica_model.specs.Asks.{are_entries}
use Rattle.replica_model.specs.Stepped.{raft_step}
use Rattle.replica_state.specs.Asked.{ruled}
use Rattle.replica_peer.specs.Peer.{home_of, replica_of}
use Rattle.replica_peer.specs.Room.{IsRoomOf}
use Rattle.replica_peer.specs.Stages.{viewed_of}
use Rattle.replica_peer.specs.declared.room.Room.{Room}
use Rattle.replica_peer.proofs.Planned.{same_sound, same_then, core_same}
use Rattle.replica_peer.proofs.peer.Peer.plan_raft.Goals as goal

pub plan_taken-requires-clause-sound : goal.plan_taken-requires-clause-sound
plan_taken-requires-clause-sound g c =
    let a = c.args.self.now in
    same_sound g.S.KeyStore.meaning g.S.KeyStore.has_place a _ c.requires.sound (core_same g.S.KeyStore.meaning g.S.KeyStore.has_place a c.reserve.new.self c.reserve.ensures.same)

pub plan_taken-requires-clause-next : goal.plan_taken-requires-clause-next
plan_taken-requires-clause-next g c = (c.args.asked, c.in-Ok.ensures.parts c.reserve.new.self c.args.asked c.in_ok-made.ensures.room)

pub plan_taken-requires-clause-own : goal.plan_taken-requires-clause-own
plan_taken-requires-clause-own g c =
    let a = c.args.self.now in
    let home = home_of a in
    let by = c.in-Ok.ensures.parts c.reserve.new.self c.args.asked c.in_ok-made.ensures.room in
    ap (λ (st : RaftStepped). are_entries home st.core.log) by.is
    ∙ ap (λ (core : Core). are_entries home (raft_stepped core c.args.asked).core.log) c.reserve.ensures.same
    ∙ c.requires.own

pub returns-in-Ok-clause-room : goal.returns-in-Ok-clause-room
returns-in-Ok-clause-room g c = λ input told.
    let a = c.args.self.now in
    let home = home_of a in
    let r = replica_of a in
    let asking = c.args.asking in
    let by = c.in-Ok.ensures.parts c.reserve.new.self c.args.asked c.in_ok-made.ensures.room in
    subst (λ (core : Core). IfOk c.plan_taken.result (λ (room : Room). IsRoomOf g.S.KeyStore.meaning g.S.KeyStore.has_place c.plan_taken.new.self
    (raft_step home (record r { core = core }) input (raft_stepped core c.args.asked) (ruled asking.rule r.lead) asking.sender (option_map viewed_of asking.viewed)) room))
    c.reserve.ensures.same
    (c.plan_taken.ensures.room c.args.asked input by told)

pub returns-in-Ok-clause-same : goal.returns-in-Ok-clause-same
returns-in-Ok-clause-same g c =
    let a = c.args.self.now in
    same_then g.S.KeyStore.meaning g.S.KeyStore.has_place a _ c.plan_taken.new.self (core_same g.S.KeyStore.meaning g.S.KeyStore.has_place a c.reserve.new.self c.reserve.ensures.same) c.plan_taken.ensures.same

pub returns-in-Err-clause-room : goal.returns-in-Err-clause-room
returns-in-Err-clause-room g c = λ input told.
    let a = c.args.self.now in
    let home = home_of a in
    let r = replica_of a in
    let asking = c.args.asking in
    let asked = c.args.asked in
    let viewed = option_map viewed_of asking.viewed in
    let core : Core = core_of c.reserve.new.self in
    let law = c.only_leaders_propose.ensures core asked in
    let none : IsLeaderless core asked = ((law.exactly _).0 (c.in-Err.ensures.refused c.reserve.new.self asked c.in_ok-made.ensures.room)).0 in
    subst (λ (x : Core). IfOk c.plan_refused.result (λ (room : Room). IsRoomOf g.S.KeyStore.meaning g.S.KeyStore.has_place c.plan_refused.new.self
    (raft_step home (record r { core = x }) input (raft_stepped x asked) (ruled asking.rule r.lead) asking.sender viewed) room))
    c.reserve.ensures.same
    (subst (λ (st : RaftStepped). IfOk c.plan_refused.result (λ (room : Room). IsRoomOf g.S.KeyStore.meaning g.S.KeyStore.has_place c.plan_refused.new.self
    (raft_step home (record r { core = core }) input st (ruled asking.rule r.lead) asking.sender viewed) room))
    (sym (law.unchanged none))
    (c.plan_refused.ensures.room input asking.rule asking.sender viewed))
