use Rattle.std.proofs.Common.{◌≡◌, ℕ, suc, List, length, map, refl, ap, sym, subst, ◌∙◌, arith}
use Rattle.std.specs.Option.{option_map}
use Rattle.raft_core.specs.declared.state.PeerState.{PeerState}
use Rattle.raft_log.specs.declared.entry.Entry.{Entry}
use Rattle.raft_log.specs.Config.{AreEntries}
use Rattle.raft_log.specs.declared.message.RaftMsg.{RaftMsg}
use Rattle.raft_core.specs.Peer.{Peer as RaftPeer, IsNextBy}
use Rattle.part_machine.specs.Machine.{IsMachine}
use Rattle.replica_model.specs.Asks.{are_entries}
use Rattle.replica_model.specs.Replica.{Replica, machine_of}
use Rattle.replica_model.specs.Stepped.{leaving, message_of}
use Rattle.replica_state.specs.State as states
use Rattle.replica_state.specs.declared.state.ReplicaState.{ReplicaState}
use Rattle.replica_state.specs.declared.whose.Whose.{Whose}
use Rattle.replica_peer.specs.Along.{IsWorked}
use Rattle.replica_peer.specs.declared.peer.Peer.{Peer}
use Rattle.replica_peer.specs.Room.{IsSame}
use Rattle.replica_peer.specs.Placed.{senders_behind}
use Rattle.replica_peer.specs.Worked.{entries_at, sent_where}
use Rattle.part_rules.specs.Part.{Part}
use Rattle.replica_model.specs.Spelling.{values_of}
use Rattle.replica_peer.specs.Peer.{home_of, replica_of}
use Rattle.replica_peer.specs.Stages.{viewed_of, row_begun}
use Rattle.replica_peer.proofs.Ahead.{laws_of, committed_are, committed_small, IsLeftBehind, ahead, st_of, taken_room}
use Rattle.replica_peer.proofs.Planned.{same_beside}
use Rattle.replica_peer.proofs.Staged.{has_room, rows_few}
use Rattle.replica_peer.proofs.peer.Peer.plan_taken.Goals as goal

pub work-requires-clause-own : goal.work-requires-clause-own
work-requires-clause-own g c =
    let a = c.args.self.now in
    let by = c.requires.next.1 in
    ap (are_entries (home_of a)) c.as_slice.ensures
    ∙ committed_are a c.requires.next.0 c.args.effects c.args.behind by
    (laws_of a c.requires.next.0 c.args.effects c.args.behind by c.log-log.ensures.peer (subst AreEntries c.log-log.ensures.log c.entries-entries.ensures.items) c.kept_is_all.ensures c.commits.ensures c.keeps_decided.ensures c.requires.own)

pub work-requires-clause-small : goal.work-requires-clause-small
work-requires-clause-small g c =
    let a = c.args.self.now in
    let by = c.requires.next.1 in
    let small = committed_small a c.requires.next.0 c.args.effects c.args.behind by
    (laws_of a c.requires.next.0 c.args.effects c.args.behind by c.log-log.ensures.peer (subst AreEntries c.log-log.ensures.log c.entries-entries.ensures.items) c.kept_is_all.ensures c.commits.ensures c.keeps_decided.ensures c.requires.own)
    (let fits = c.len-last.ensures.fits in let count = c.len-last.ensures.count in let log = ap length c.log-log.ensures.log in omega arith)
    (let fits = c.len-more.ensures in omega arith) in
    let same = ap length c.as_slice.ensures in
    omega arith

pub returns-clause-same : goal.returns-clause-same
returns-clause-same g c =
    same_beside g.S.KeyStore.meaning g.S.KeyStore.has_place c.args.self.now c.work.new.self _ c.work.ensures.same refl
    c.make_room.ensures.replica (ap (λ (w : Whose). states.home_in w) c.make_room.ensures.whose)

pub returns-clause-room : goal.returns-clause-room
returns-clause-room g c = λ asked i by telling.
    let a = c.args.self.now in
    let home = home_of a in
    let r = replica_of a in
    let effects = c.args.effects in
    let behind = c.args.behind in
    let asking = c.args.asking in
    let at = c.look_ahead-at.result in
    let st = st_of a asked effects behind by in
    let b : Peer g.row.S.Denot = record { state = c.make_room.new.state; machine = c.work.new.self.machine } in
    let same : IsSame g.S.KeyStore.meaning g.S.KeyStore.has_place a b =
    same_beside g.S.KeyStore.meaning g.S.KeyStore.has_place a c.work.new.self b c.work.ensures.same refl c.make_room.ensures.replica (ap (λ (w : Whose). states.home_in w) c.make_room.ensures.whose) in
    let kept : states.replica_of c.make_room.new.state ≡ r = c.make_room.ensures.replica ∙ ap states.replica_of c.work.ensures.state in
    let core : c.make_room.new.state.core ≡ a.state.core = c.make_room.ensures.core ∙ ap (λ (s : ReplicaState). s.core) c.work.ensures.state in
    let w = c.in_ok-placed.worked in
    let viewed = option_map viewed_of asking.viewed in
    let laws = laws_of a asked effects behind by c.log-log.ensures.peer (subst AreEntries c.log-log.ensures.log c.entries-entries.ensures.items) c.kept_is_all.ensures c.commits.ensures c.keeps_decided.ensures c.requires.own in
    taken_room g.S.KeyStore.meaning g.S.KeyStore.has_place a b c.requires.sound same asked effects behind by laws i asking.rule asking.sender viewed _ _
    (ahead home r st i asking.rule asking.sender viewed at asking.told telling
    (record {
      on = c.look_ahead-at.ensures.on;
      leads = c.look_ahead-at.ensures.leads;
      keeps = c.look_ahead-at.ensures.keeps;
      ready = c.look_ahead-at.ensures.ready;
      policy = c.look_ahead-at.ensures.policy;
      appended = c.look_ahead-at.ensures.appended;
      by = c.look_ahead-at.ensures.by;
    })
    w c.begun_row-begun.result _ _
    (record {
      core = refl;
      on = refl;
      rules = refl;
      policy = refl;
      ready = refl;
      appended = refl;
      reads = c.reads_ahead.ensures;
      confirmed = refl;
      placed = c.in_ok-placed.ensures.entries ∙ ap (λ es. entries_at (suc r.core.commit) (values_of home.spelling es)) c.as_slice.ensures;
      begins = refl;
      tells = c.in_ok-leaves.ensures.told;
      round = c.begun_row-begun.ensures ∙ ap (λ (s : PeerState). row_begun viewed s.round behind.state.round) c.state.ensures;
      worked = subst (λ (x : List (ℕ × RaftMsg) × List Entry). IsWorked (map leaving (map (message_of at.by.part at.by.me) x.0))
          (sent_where at.leads home at.by.me at.by.term (senders_behind at.on at.appended r.senders) (machine_of home r) at.ready (suc r.core.commit) (values_of home.spelling x.1)) w)
          (λ j. (c.into_vec.ensures j, c.as_slice.ensures j)) c.in_ok-placed.ensures.worked;
      left = subst (λ (x : Replica). IsLeftBehind home r st i asking.rule asking.sender viewed at asking.told x w c.begun_row-begun.result c.in_ok-leaves.leaves) kept c.in_ok-leaves.ensures.left;
    }))
    (record {
      core = (asked, effects, subst (λ (p : RaftPeer). IsNextBy p asked effects behind) (sym core) by);
      shows = subst (λ (p : Part). IsMachine g.S.KeyStore.meaning g.S.KeyStore.has_place p c.in_ok-placed.placed b.machine) (sym (λ j. machine_of (same.home j) (same.replica j))) c.in_ok-placed.ensures.shows;
      sender = c.in_ok-make_room.ensures.sender;
      spare = let few = rows_few w.begins.items in let room = c.in_ok-make_room.ensures.chains in let count = c.len.ensures in omega arith;
      room = has_room _ _ _ c.in_ok-make_room.ensures.rows;
    })
