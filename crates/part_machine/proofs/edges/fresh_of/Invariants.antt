use Rattle.std.proofs.Common.{◌≡◌, ◌++◌, drop, filter}
use Rattle.part_rules.specs.Part.{Part, is_fresh}
use Rattle.part_store.specs.Keeps.{Keeps}
use Rattle.part_machine.specs.Edges.{is_lower}
use Rattle.part_machine.proofs.edges.fresh_of.Given as goal

-- those so far, with the fresh ones of the others
abbrev pub invariant-loop-half : goal.invariant-loop-half
invariant-loop-half g l = record {
  fresh : (p : Part) → Keeps l.s p (g.S.KeyStore.meaning l.store) → l.made ++ filter (is_fresh p l.v) (drop l.half-index l.list) ≡ filter (is_fresh p l.v) l.list;
  left : l.made ++ filter (is_lower l.s (g.S.KeyStore.meaning l.store) l.v) (drop l.half-index l.list) ≡ filter (is_lower l.s (g.S.KeyStore.meaning l.store) l.v) l.list;
}
