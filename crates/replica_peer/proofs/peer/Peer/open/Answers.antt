use Rattle.std.proofs.Common.{ap, sym, subst, ◌∙◌, []}
use native.Mathlib.Omega.{arith}
use Rattle.part_store.specs.declared.setting.Setting.{Setting}
use Rattle.part_machine.specs.Machine.{IsMachine}
use Rattle.replica_model.specs.Asks.{are_entries}
use Rattle.replica_model.specs.Replica.{Home, Replica, machine_of}
use Rattle.replica_peer.proofs.peer.Peer.open.Goals as goal

abbrev setting_at : Home → Setting
setting_at h = record { ids = h.ids; parts = h.parts; part = h.part }

pub returns-clause-sound : goal.returns-clause-sound
returns-clause-sound g c = record {
  setting = c.new.ensures.setting ∙ sym (ap setting_at c.open.ensures.home);
  reserved = [];
  shows = subst (λ p. IsMachine g.S.KeyStore.meaning g.S.KeyStore.has_place p [] c.new.result) (sym (λ i. machine_of (c.open.ensures.home i) (c.open.ensures.opened i))) c.new.ensures.shows;
  next = rw (ap (λ (r : Replica). r.core.commit) c.open.ensures.opened, c.new.ensures.next) (omega arith);
  entries = (λ i. are_entries (c.open.ensures.home i) (c.open.ensures.opened i).core.log) ∙ c.requires.entries;
  hints = λ v none. ap (λ (r : Replica). r.hints v) c.open.ensures.opened;
}
