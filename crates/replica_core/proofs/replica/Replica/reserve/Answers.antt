use Rattle.replica_peer.specs.Peer as peers
use Rattle.replica_peer.specs.Room as rooms
use Rattle.replica_record.specs.Own.{allowed_in}
use Rattle.replica_record.proofs.Kept.{keeps_own}
use Rattle.replica_core.proofs.Stepping.{framed_of}
use Rattle.kv_part.specs.MapStore.{contents, has_place_for}
use Rattle.replica_core.proofs.Spelled.{at_home, packets_spelled}
use Rattle.replica_core.proofs.replica.Replica.reserve.Goals as goal

pub returns-clause-room : goal.returns-clause-room
returns-clause-room g c =
    let home = peers.home_of c.plan.new.self in
    record {
      made = c.in_ok-made.ensures.room;
      framed = framed_of (allowed_in home) (g.D.Disk.room_calls c.make_frame.new.file.0) (g.D.Disk.room_bytes c.make_frame.new.file.0) _ c.in_ok-made.made.kept (rooms.step_of c.plan.new.self c.args.input).kept c.in_ok-frame.frame
          c.kept.ensures c.in_ok-made.ensures.room.kept (keeps_own home (peers.replica_of c.plan.new.self) c.args.input) (c.in_ok-frame.ensures.framed (allowed_in home));
    }

pub returns-clause-spelled : goal.returns-clause-spelled
returns-clause-spelled g c is heard =
    let peer = c.plan.new.self in
    packets_spelled c.in_ok-made.made.leaves (rooms.step_of peer c.args.input).leaves c.in_ok-made.ensures.room.leaves
    (c.leaves_are_spelled.ensures.leaves (peers.home_of peer) (peers.replica_of peer) c.args.input (at_home contents has_place_for peer c.plan.ensures.sound) is heard)
