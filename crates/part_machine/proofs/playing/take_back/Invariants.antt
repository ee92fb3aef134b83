use Rattle.std.proofs.Common.{◌≡◌, vec_len}
use Rattle.part_machine.specs.Chains.{standing}
use Rattle.part_machine.specs.Playing.{undone, returned, AreBacksPlaced, KeepsPlaces}
use Rattle.part_machine.proofs.playing.take_back.Given as goal

-- what is left takes back what all of them take back at first
abbrev pub invariant-backs : goal.invariant-backs
invariant-backs g l = record {
  store : undone (g.S.KeyStore.meaning l.machine.store) l.backs.items ≡ undone (g.S.KeyStore.meaning l.fn.machine.store) l.fn.backs.items;
  chains : returned (standing l.machine.chains.entries) l.backs.items ≡ returned (standing l.fn.machine.chains.entries) l.fn.backs.items;
  placed : AreBacksPlaced (g.S.KeyStore.has_place l.machine.store) l.machine.chains.entries l.backs.items;
  kept : KeepsPlaces (g.S.KeyStore.has_place l.fn.machine.store) (g.S.KeyStore.has_place l.machine.store) l.fn.machine.chains.entries l.machine.chains.entries;
  plans : l.machine.plans ≡ l.fn.machine.plans;
  setting : l.machine.setting ≡ l.fn.machine.setting;
  next : l.machine.next ≡ l.fn.machine.next;
}

abbrev pub decreases-backs : goal.decreases-backs
decreases-backs g l = vec_len l.backs
