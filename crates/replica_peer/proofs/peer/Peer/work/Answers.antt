use Rattle.std.proofs.Common.{◌≡◌, suc, List, ap, subst, ◌∙◌}
use Rattle.replica_model.specs.Replica.{Home, machine_of}
use Rattle.replica_model.specs.Spelling.{values_of}
use Rattle.replica_model.specs.Stepped.{Leaving}
use Rattle.replica_peer.specs.Along.{IsWorked}
use Rattle.replica_peer.specs.Peer.{home_in, home_of, replica_of}
use Rattle.replica_peer.specs.Placed.{senders_behind}
use Rattle.replica_peer.specs.Worked.{sent_where}
use Rattle.replica_peer.proofs.peer.Peer.work.Goals as goal

pub returns-clause-worked : goal.returns-clause-worked
returns-clause-worked g c =
    let a = c.args.self.now in
    let at = c.args.at.now in
    let home : home_in c.place.new.self.machine.setting ≡ home_of a = ap home_in (c.place.ensures.same.setting ∙ c.requires.sound.setting) in
    subst (λ (x : List Leaving × Home). IsWorked x.0 (sent_where at.leads x.1 at.by.me at.by.term (senders_behind at.on at.appended (replica_of a).senders) (machine_of (home_of a) (replica_of a)) at.ready (suc (replica_of a).core.commit) (values_of (home_of a).spelling c.args.committed.now)) c.in_ok-worked.worked)
    (λ j. (c.in_ok-leaves.ensures j, home j))
    (c.in_ok-worked.ensures _ _ _ _ c.in_ok-placing.ensures.shows c.in_ok-placing.ensures.entries c.in_ok-placing.ensures.kinds)
