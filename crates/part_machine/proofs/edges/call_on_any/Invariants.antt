use Rattle.std.proofs.Common.{◌≡◌, drop}
use Rattle.graph_model.specs.Edges.{edges_in}
use Rattle.part_rules.specs.Part.{Part, chain_on_any}
use Rattle.part_store.specs.Keeps.{Keeps}
use Rattle.part_machine.proofs.edges.call_on_any.Given as goal

-- what is left tells
abbrev pub invariant-loop-half : goal.invariant-loop-half
invariant-loop-half g l = (p : Part) → Keeps l.s p (g.S.KeyStore.meaning l.store) → chain_on_any p (edges_in (drop l.half-index l.list)) ≡ chain_on_any p (edges_in l.list)
