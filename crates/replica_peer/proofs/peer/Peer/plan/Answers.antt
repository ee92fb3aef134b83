use Rattle.std.proofs.Common.{◌≡◌, ◌<◌, true, sym, subst}
use Rattle.std.specs.Prelude.{IfOk}
use Rattle.part_store.specs.declared.setting.Setting.{Setting}
use Rattle.replica_model.specs.Asks.{Asks, are_entries}
use Rattle.replica_model.specs.Replica.{Home, Replica}
use Rattle.replica_model.specs.Stepped.{does, stepped}
use Rattle.replica_peer.specs.Peer.{home_of, replica_of}
use Rattle.replica_peer.specs.Room.{IsRoomOf}
use Rattle.replica_peer.specs.declared.room.Room.{Room}
use Rattle.replica_peer.proofs.Owned.{behind_are}
use Rattle.replica_peer.proofs.Planned.{same_sound}
use Rattle.replica_peer.proofs.peer.Peer.plan.Goals as goal

pub asks-requires-clause-parts : goal.asks-requires-clause-parts
asks-requires-clause-parts g c =
    subst (λ (s : Setting). 0 < s.parts) c.requires.sound.setting c.requires.sound.shows.setting.some

pub plan_asked-requires-clause-own : goal.plan_asked-requires-clause-own
plan_asked-requires-clause-own g c =
    let a = c.args.self.now in
    let input = c.args.input in
    let home = home_of a in
    let r = replica_of a in
    let st = stepped home r input in (
      input,
      subst (λ (x : Asks). are_entries home (does home r input x).replica.core.log ≡ true) (sym c.in_ok-asked.ensures.asked)
          (behind_are home r.core st.replica.core st.kept (c.one_record.ensures home r input c.log-log.ensures.peer) (c.own_records.ensures home r input) c.requires.sound.entries),
    )

pub returns-clause-room : goal.returns-clause-room
returns-clause-room g c =
    let a = c.args.self.now in
    let b = c.plan_asked.new.self in
    let input = c.args.input in
    let same = c.plan_asked.ensures.same in
    subst (λ (x : Home × Replica). IfOk c.plan_asked.result (λ (room : Room). IsRoomOf g.S.KeyStore.meaning g.S.KeyStore.has_place b (stepped x.0 x.1 input) room)) (sym (λ j. (same.home j, same.replica j)))
    (subst (λ (x : Asks). IfOk c.plan_asked.result (λ (room : Room). IsRoomOf g.S.KeyStore.meaning g.S.KeyStore.has_place b (does (home_of a) (replica_of a) input x) room)) c.in_ok-asked.ensures.asked
    (c.plan_asked.ensures.room input (record { policy = c.told_in-told.ensures.policy; again = c.told_in-told.ensures.again })))

pub returns-clause-sound : goal.returns-clause-sound
returns-clause-sound g c = same_sound g.S.KeyStore.meaning g.S.KeyStore.has_place c.args.self.now c.plan_asked.new.self c.requires.sound c.plan_asked.ensures.same
