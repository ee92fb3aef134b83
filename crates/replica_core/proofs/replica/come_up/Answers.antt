use Rattle.std.proofs.Common.{◌≡◌, true, sym, ap, subst, ◌∙◌}
use Rattle.part_store.specs.declared.setting.Setting.{Setting}
use Rattle.replica_file.specs.Seen as seen
use Rattle.replica_model.specs.Asks.{are_entries}
use Rattle.replica_peer.specs.Peer.{home_in}
use Rattle.replica_record.proofs.Own.{entries_are}
use Rattle.replica_core.specs.Who as of
use Rattle.replica_core.proofs.Stepping.{kept_up}
use Rattle.replica_core.proofs.replica.come_up.Goals as goal

pub open-requires-clause-entries : goal.open-requires-clause-entries
open-requires-clause-entries g c =
    subst (λ (s : Setting). are_entries (home_in s) c.args.left.log.0 ≡ true) (sym c.setting.ensures) (entries_are (of.home_of c.args.who) c.args.left.log.0 c.requires.own)

pub returns-clause-sound : goal.returns-clause-sound
returns-clause-sound g c = record {
  peer = c.open.ensures.sound;
  kept = λ up. kept_up g.D.Disk.reads g.D.Disk.may_leave (of.home_of c.args.who) _ c.args.who.peer (seen.durable_of c.args.left) _ c.args.file (c.open.ensures.home ∙ ap home_in c.setting.ensures) c.open.ensures.opened c.requires.kept;
}
