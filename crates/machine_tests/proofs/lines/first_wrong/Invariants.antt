use Rattle.std.proofs.Common.{◌≡◌, ◌+◌, ℕ, List}
use Rattle.part_keys.specs.declared.entry.PartEntry.{PartEntry}
use Rattle.part_rules.specs.Part.{Part}
use Rattle.part_machine.specs.Machine.{IsMachine}
use Rattle.kv_part.specs.MapStore.{contents, has_place_for}
use Rattle.machine_tests.specs.Here.{here}
use Rattle.machine_tests.proofs.lines.first_wrong.Given as goal

-- the machine shows a state, and the next index is that of the next line
abbrev pub invariant-loop-i : goal.invariant-loop-i
invariant-loop-i l = record {
  shows : (p : Part) × (entries : List (ℕ × PartEntry)) × IsMachine contents has_place_for p entries l.machine;
  setting : l.machine.setting ≡ here;
  next : l.machine.next ≡ l.i + 1;
}
