use Rattle.std.proofs.Common.{◌≡◌, ◌≤◌, drop}
use Rattle.part_rules.specs.Part.{Part}
use Rattle.part_machine.specs.Machine.{IsMachine}
use Rattle.part_machine.specs.Playing.{next_by}
use Rattle.replica_peer.specs.Next.{rows_in}
use Rattle.replica_peer.proofs.Follows.{IsApplied}
use Rattle.replica_peer.proofs.applying.apply_all.Given as goal

-- the entries so far are applied, and there is room for the rows that are left
abbrev pub invariant-loop-placed : goal.invariant-loop-placed
invariant-loop-placed g l = record {
  applied : (p : Part) → IsMachine g.S.KeyStore.meaning g.S.KeyStore.has_place p l.entries l.fn.machine
      → IsApplied g.S.KeyStore.meaning g.S.KeyStore.has_place p l.fn.table.0 l.entries l.fn.begins.items l.fn.machine.setting l.machine l.table.0 (drop l.placed-index l.entries) l.begins.items;
  room : rows_in l.begins.items ≤ l.table.1;
  setting : l.machine.setting ≡ l.fn.machine.setting;
  next : next_by l.machine.next (drop l.placed-index l.entries) ≡ next_by l.fn.machine.next l.entries;
}
