use Rattle.std.proofs.Common.{◌≡◌, ◌++◌, drop, filter}
use Rattle.part_rules.specs.Part.{Part}
use Rattle.part_store.specs.Keeps.{Keeps}
use Rattle.part_machine.specs.Edges.{is_taken, is_left}
use Rattle.part_machine.proofs.edges.taken_of.Given as goal

-- those so far, with what is taken of the others
abbrev pub invariant-loop-half : goal.invariant-loop-half
invariant-loop-half g l = record {
  taken : (p : Part) → Keeps l.s p (g.S.KeyStore.meaning l.store) → l.made ++ filter (is_taken p l.absent) (drop l.half-index l.list) ≡ filter (is_taken p l.absent) l.list;
  left : l.made ++ filter (is_left l.s (g.S.KeyStore.meaning l.store) l.absent) (drop l.half-index l.list) ≡ filter (is_left l.s (g.S.KeyStore.meaning l.store) l.absent) l.list;
}
