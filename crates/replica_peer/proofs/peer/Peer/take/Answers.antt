use Rattle.std.proofs.Common.{◌≡◌, suc, ◌≤◌, ap, sym, subst, ◌∙◌}
use Rattle.part_rules.specs.Part.{Part}
use Rattle.part_store.specs.declared.setting.Setting.{Setting}
use Rattle.part_machine.specs.Machine.{IsMachine}
use Rattle.replica_model.specs.Asks.{are_entries}
use Rattle.replica_model.specs.Laws.{HintsStand}
use Rattle.replica_model.specs.Replica.{Home, Replica, machine_of}
use Rattle.replica_peer.specs.Peer.{home_of, replica_of}
use Rattle.replica_peer.specs.Room.{step_of}
use Rattle.replica_peer.proofs.Taken.{shown_by}
use Rattle.replica_peer.proofs.peer.Peer.take.Goals as goal

abbrev setting_at : Home → Setting
setting_at h = record { ids = h.ids; parts = h.parts; part = h.part }

pub returns-clause-sound : goal.returns-clause-sound
returns-clause-sound g c =
    let a = c.args.self.now in
    let b = c.go_to.new.self in
    let input = c.requires.room.0 in
    let room = c.requires.room.1 in
    let was = c.requires.sound in
    let home : home_of b ≡ home_of a = c.go_to.ensures.home in
    let is : replica_of b ≡ (step_of a input).replica = c.go_to.ensures.replica ∙ room.next in
    let shown = shown_by g.S.KeyStore.meaning g.S.KeyStore.has_place a was.reserved b.machine (step_of a input).replica c.args.room.next room.next room.machine was.next (c.go_to.ensures.shows was.reserved was.shows) in
    record {
      setting = c.go_to.ensures.setting ∙ was.setting ∙ sym (ap setting_at home);
      reserved = shown.left;
      shows = subst (λ (p : Part). IsMachine g.S.KeyStore.meaning g.S.KeyStore.has_place p shown.left b.machine) (sym (λ i. machine_of (home i) (is i))) shown.shows;
      next = subst (λ (r : Replica). b.machine.next ≤ suc r.core.commit) (sym is) shown.next;
      entries = (λ i. are_entries (home i) (is i).core.log) ∙ room.entries;
      hints = subst HintsStand (sym is) (c.hints_go.ensures.kept (home_of a) (replica_of a) input was.hints);
    }
