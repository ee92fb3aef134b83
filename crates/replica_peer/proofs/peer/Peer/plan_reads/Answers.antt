use Rattle.std.proofs.Common.{None, Some, sym, subst}
use Rattle.std.specs.Prelude.{IfOk}
use Rattle.graph_model.specs.declared.answer.Answer.{Answer}
use Rattle.part_store.specs.declared.setting.Setting.{Setting}
use Rattle.part_views.specs.Views.{IsAsked}
use Rattle.raft_core.specs.Step.{stepped as raft_stepped}
use Rattle.raft_core.specs.declared.input.RaftInput.TheVariants.{Confirm}
use Rattle.replica_model.specs.Replica.{machine_of}
use Rattle.replica_model.specs.Stepped.{raft_step}
use Rattle.replica_peer.specs.Peer.{home_of, replica_of, setting_of}
use Rattle.replica_peer.specs.Room.{IsRoomOf}
use Rattle.replica_peer.specs.declared.room.Room.{Room}
use Rattle.replica_peer.proofs.peer.Peer.plan_reads.Goals as goal

pub view-requires-clause-asked : goal.view-requires-clause-asked
view-requires-clause-asked g c =
    let whose = c.args.self.now.state.whose in
    subst (λ (s : Setting). IsAsked s c.args.query) (sym c.requires.sound.setting)
    (c.reads_are_asked.ensures (setting_of whose) c.args.id c.args.query c.requires.mine c.requires.spelled)

pub returns-clause-room : goal.returns-clause-room
returns-clause-room g c = λ input told.
    let a = c.args.self.now in
    let home = home_of a in
    let r = replica_of a in
    subst (λ (answer : Answer). IfOk c.plan_raft.result (λ (room : Room). IsRoomOf g.S.KeyStore.meaning g.S.KeyStore.has_place c.plan_raft.new.self
    (raft_step home r input (raft_stepped r.core Confirm) r.lead None (Some (record { id = c.args.id; answer = answer }))) room))
    (c.read.ensures.read (machine_of home r) c.args.query (c.in_ok-found.ensures (machine_of home r) c.requires.sound.reserved c.requires.sound.shows))
    (c.plan_raft.ensures.room input told)
