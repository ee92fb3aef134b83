use Rattle.std.proofs.Common.{◌≡◌, drop}
use Rattle.part_rules.specs.Part.{Part, all_written}
use Rattle.part_store.specs.Keeps.{Keeps}
use Rattle.part_machine.proofs.edges.all_written.Given as goal

-- what is left tells
abbrev pub invariant-loop-edge : goal.invariant-loop-edge
invariant-loop-edge g l = (p : Part) → Keeps l.s p (g.S.KeyStore.meaning l.store) → all_written p l.v (drop l.edge-index l.edges) ≡ all_written p l.v l.edges
